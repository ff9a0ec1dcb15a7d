use Rattle.std.proofs.Common.{◌≡◌, is_some, IsSome, Some, None, Option, sym, refl, ap, ◌∙◌}
use Rattle.std.specs.Option.{option_map}
use Rattle.sheets.specs.Shown.{said}
use Rattle.sheets.specs.Reading.{said_at, as_interface}
use Rattle.sheets.specs.Sheets.{sheet_of}
use Rattle.sheets.specs.declared.field.Field.{Field}
use Rattle.sheets.specs.declared.opened.Checked.{Checked}
use Rattle.sheets.specs.declared.words.Interface.{Interface}
use Rattle.sheets.proofs.Reading.{same_some}
use Rattle.sheets.proofs.Saying.{face_read}
use Rattle.sheets.proofs.opened.Checked.interface.Goals as goal

-- the first field is an interface
face : (s : Checked) (o : Option Field) → option_map said o ≡ said_at 1 0 s.bytes.now → as_interface (option_map said o) ≡ Some (sheet_of s.width.bytes s.bytes.now).face
face s o e = ap as_interface e ∙ face_read s.width.bytes s.bytes.now s.right

there : (o : Option Field) (i : Interface) → as_interface (option_map said o) ≡ Some i → IsSome o
there None i e = ap is_some e
there (Some f) i e = refl

pub unwrap-requires : goal.unwrap-requires
unwrap-requires c = there c.field.result _ (face c.args.self.now _ c.field.ensures)

pub unwrap-requires-2 : goal.unwrap-requires-2
unwrap-requires-2 c = ap is_some (c.as_interface.ensures ∙ ap (λ o. as_interface (option_map said o)) (sym c.unwrap.ensures) ∙ face c.args.self.now _ c.field.ensures)

pub returns : goal.returns
returns c =
    same_some _ _ (sym c.unwrap-2.ensures ∙ c.as_interface.ensures ∙ ap (λ o. as_interface (option_map said o)) (sym c.unwrap.ensures) ∙ face c.args.self.now _ c.field.ensures)

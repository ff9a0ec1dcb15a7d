use Rattle.std.proofs.Common.{◌≡◌, ap, ◌∙◌, rules}
use Rattle.std.specs.Option.{option_map}
use Rattle.std.specs.List.{slice_get}
use Rattle.sheets.specs.Frames.{fields}
use Rattle.sheets.specs.Places.{found_at}
use Rattle.sheets.specs.Sheets.{placed}
use Rattle.sheets.proofs.Saying.{offsets_read}
use Rattle.sheets.proofs.opened.Checked.offset.Goals as goal

pub returns : goal.returns
returns c =
    let s = c.args.self.now in
    let at : c.map.result ≡ option_map (λ p. p.0) (found_at c.find.result) = search rules in
    at ∙ offsets_read c.args.item s.bytes.now c.args.k _ (c.find.ensures ∙ ap (λ t. slice_get (placed t 0 (fields s.bytes.now)) c.args.k) c.into.ensures)

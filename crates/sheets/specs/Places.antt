-- What the code's fields with their places stand for. Assumes nothing.
use Rattle.std.specs.Prelude.{ℕ, List, Option}
use Rattle.std.specs.Option.{option_map}
use Rattle.sheets.specs.Frames.{Raw, fields, laid}
use Rattle.sheets.specs.Parts.{raw}
use Rattle.sheets.specs.declared.fields.Placed.{Placed}
use Rattle.sheets.specs.declared.fields.Fields.{Fields}

-- a field with the offset at which it begins
abbrev pub place : Placed → ℕ × Raw
place p = (p.at, raw p.part)

-- the fields that are yet to come
abbrev pub to_come : Fields → List (ℕ × Raw)
to_come s = laid s.at (fields s.rest.now)

-- a field that was looked for, with its offset
abbrev pub found_at : Option Placed → Option (ℕ × Raw)
found_at = option_map place

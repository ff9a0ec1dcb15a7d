use Rattle.std.proofs.Common.{map, vec_items}
use Rattle.sheets.specs.Places.{to_come}
use Rattle.files.specs.Files.{made_of}
use Rattle.files.proofs.Decoding.{Read}
use Rattle.files.proofs.decode.decode.Given as goal

abbrev pub invariant-loop-field : goal.invariant-loop-field
invariant-loop-field l = Read l.form l.bytes (to_come l.field-iterator) l.end (map made_of (vec_items l.calls))

use Rattle.std.proofs.Common.{vec_items}
use Rattle.sheets.specs.Places.{to_come}
use Rattle.report.proofs.Files.{Told}
use Rattle.report.proofs.answers.answers.Given as goal

abbrev pub invariant-loop-field : goal.invariant-loop-field
invariant-loop-field l = Told l.width.bytes l.bytes (to_come l.field-iterator) l.end (vec_items l.lines)

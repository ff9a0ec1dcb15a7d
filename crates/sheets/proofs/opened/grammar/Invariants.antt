use Rattle.sheets.specs.Places.{to_come}
use Rattle.sheets.proofs.Sofar.{Sofar}
use Rattle.sheets.proofs.opened.grammar.Given as goal

abbrev pub invariant-loop-field : goal.invariant-loop-field
invariant-loop-field l = Sofar l.width.bytes l.bytes (to_come l.field-iterator) l.end l.seen

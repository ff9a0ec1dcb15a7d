use Rattle.std.proofs.Common.{◌≡◌, ◌++◌, drop, string_bytes}
use Rattle.listing.specs.Answers.{mark_lines}
use Rattle.listing.proofs.answers.push_marks.Given as goal

abbrev pub invariant-loop-n : goal.invariant-loop-n
invariant-loop-n l = string_bytes l.text ++ mark_lines l.n (drop l.n (l.row-items)) ≡ string_bytes l.initial.text ++ mark_lines 0 (l.row-items)

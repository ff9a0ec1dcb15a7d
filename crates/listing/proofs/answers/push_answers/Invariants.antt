use Rattle.std.proofs.Common.{◌≡◌, ◌++◌, drop, length, string_bytes}
use Rattle.listing.specs.Answers.{answers_lines}
use Rattle.listing.proofs.answers.push_answers.Given as goal

abbrev pub invariant-loop-call : goal.invariant-loop-call
invariant-loop-call g l =
    string_bytes l.text ++ answers_lines g.M.Spelt.text g.M.Measure.wide l.index (drop (length l.yielded) l.calls) (drop (length l.yielded) l.answers) l.rest
    ≡ string_bytes l.initial.text ++ answers_lines g.M.Spelt.text g.M.Measure.wide l.index l.calls l.answers l.out

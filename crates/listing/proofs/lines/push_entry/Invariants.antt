use Rattle.std.proofs.Common.{◌≡◌, ◌++◌, drop, string_bytes}
use Rattle.listing.specs.Lines.{words}
use Rattle.listing.proofs.lines.push_entry.Given as goal

abbrev pub invariant-loop-n : goal.invariant-loop-n
invariant-loop-n g l = string_bytes l.text ++ words (drop l.n-index l.n-items) ≡ string_bytes l.initial.text ++ words l.n-items

-- The sums of the entries so far are written.
use Rattle.std.proofs.Common.{◌≡◌, ◌*◌, length, take}
use Rattle.costs.specs.Entries.{entry_ops}
use Rattle.costs.specs.Lists.{sums, Written}
use Rattle.costs.proofs.join.join.Given as goal

abbrev pub invariant-loop-x : goal.invariant-loop-x
invariant-loop-x g l =
    (l.at ≡ l.x-index * length l.ys) × Written l.initial.into l.into l.at (sums (entry_ops g.M.Measure.ops) (take l.x-index l.xs) l.ys)

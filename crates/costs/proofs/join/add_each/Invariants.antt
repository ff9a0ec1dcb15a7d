-- The sums with the first j are written.
use Rattle.std.proofs.Common.{◌+◌, ◌++◌, map, take}
use Rattle.costs.specs.Entries.{entry_ops}
use Rattle.costs.specs.Lists.{Written}
use Rattle.costs.proofs.join.add_each.Given as goal

abbrev pub invariant-loop-j : goal.invariant-loop-j
invariant-loop-j g l = Written l.initial.into l.into (l.at + l.j) (take l.at l.initial.into ++ map ((entry_ops g.M.Measure.ops).plus l.x) (take l.j l.ys))

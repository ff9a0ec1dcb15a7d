-- Those kept so far are written.
use Rattle.std.proofs.Common.{◌≡◌, ◌≤◌, length, take, drop}
use Rattle.costs.specs.Entries.{entry_ops}
use Rattle.costs.specs.Reducers.{kept}
use Rattle.costs.proofs.keep.KeepReducer.reduce.Given as goal

abbrev pub invariant-loop-x : goal.invariant-loop-x
invariant-loop-x g l =
    (l.k ≤ l.x-index) × (take l.k l.into ≡ kept (entry_ops g.M.Measure.ops) (take l.x-index l.from)) × (drop (length l.from) l.into ≡ drop (length l.from) l.initial.into)

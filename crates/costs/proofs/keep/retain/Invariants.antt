-- Of the rows so far those that x does not beat stand in front.
use Rattle.std.proofs.Common.{not}
use Rattle.std.proofs.lemmas.List.Filters.{FiltersInPlace}
use Rattle.costs.specs.Entries.{entry_ops}
use Rattle.costs.specs.Reducers.{beats}
use Rattle.costs.proofs.keep.retain.Given as goal

abbrev pub invariant-loop-i : goal.invariant-loop-i
invariant-loop-i g l = FiltersInPlace (λ y. not (beats (entry_ops g.M.Measure.ops) l.x y)) l.initial.rows l.rows l.k l.i

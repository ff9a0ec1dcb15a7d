-- What the loop keeps: what is left of the joins gives what all give. Assumes nothing.
use Rattle.std.proofs.Common.{◌-◌, take}
use Rattle.costs.specs.declared.entry.Entry.{Entry}
use Rattle.costs.specs.Forming.{Formation}
use Rattle.networks.specs.Cards.{Times}
use Rattle.networks.proofs.draft.Draft.join_times.Given as goal

abbrev pub invariant-loop : goal.invariant-loop
invariant-loop g l =
    (q : Formation (Entry g.row.M.Denot)) → Times g.M.Measure.ops g.R.Reducer.gives (l.n - l.counter) l.other (take l.self.len l.self.rows.now) q → Times g.M.Measure.ops g.R.Reducer.gives l.n l.other (take l.fn.self.len l.fn.self.rows.now) q

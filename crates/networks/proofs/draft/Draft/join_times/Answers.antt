-- One join more. Assumes nothing.
use Rattle.std.proofs.Common.{take}
use Rattle.costs.specs.Forming.{long}
use Rattle.networks.proofs.Steps.{times_long, times_on}
use Rattle.networks.proofs.draft.Draft.join_times.Goals as goal

pub returns-in_err-join : goal.returns-in_err-join
returns-in_err-join g c =
    let l = c.loop in
    rw c.from_residual.ensures (l.invariant long (times_long g.M.Measure.ops g.R.Reducer.gives c.args.n l.counter c.loop-test.true c.args.other.now (take l.self.len l.self.rows.now) c.in_err-join.ensures))

pub loop-preserved : goal.loop-preserved
loop-preserved g c q rest =
    let l = c.loop in
    let draft = c.join.new.self in
    l.invariant q (times_on g.M.Measure.ops g.R.Reducer.gives c.args.n l.counter c.loop-test.true c.args.other.now (take l.self.len l.self.rows.now) (take draft.len draft.rows.now) c.in_ok-join.ensures q rest)

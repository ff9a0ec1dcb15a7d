-- What the loop keeps: the states so far are worked. Assumes nothing.
use Rattle.std.proofs.Common.{take, drop}
use Rattle.charts.specs.Naming.{says}
use Rattle.charts.specs.Rows.{Working}
use Rattle.charts.proofs.graph.Chart.work_states.Given as goal

abbrev pub invariant-loop-s : goal.invariant-loop-s
invariant-loop-s g l = Working g.M.Measure.ops g.M.Measure.meant g.R.Reducer.gives (says l.self.sheet.now) l.order (take l.s-index l.order) (drop l.s-index l.order) l.lists.rows.now l.lists.lens

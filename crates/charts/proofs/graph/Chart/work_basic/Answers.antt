-- The card of a basic block from its states and its events. Assumes nothing.
use Rattle.std.proofs.Common.{take}
use Rattle.charts.specs.Naming.{says}
use Rattle.charts.proofs.Carding.{basic_carded}
use Rattle.charts.proofs.graph.Chart.work_basic.Goals as goal

pub returns : goal.returns
returns g c =
    let lists = c.work_states.new.lists in
    basic_carded g.M.Measure.ops g.M.Measure.meant g.R.Reducer.gives (says c.args.self.now.sheet.now) (take c.in_ok-count.count c.plan.new.order) lists.rows.now lists.lens c.requires.kind c.in_ok-count.ensures.order.1 c.in_ok-work_states.ensures
    c.work_events.new.rows c.work_events.result c.work_events.ensures

-- The card by the kind of block. Assumes nothing.
use Rattle.std.proofs.Common.{ap, ◌∙◌}
use Rattle.costs.specs.Lent.{list_at}
use Rattle.charts.specs.Naming.{says}
use Rattle.charts.proofs.Carding.{service_carded}
use Rattle.charts.proofs.graph.Chart.work_card.Goals as goal

pub returns-in_default : goal.returns-in_default
returns-in_default g c =
    let lists = c.new.result in
    service_carded g.M.Measure.ops g.M.Measure.meant g.R.Reducer.gives (says c.args.self.now.sheet.now) (list_at lists.rows.now lists.lens) (λ is. c.in_default.not-Basic (ap (λ f. f.kind) c.interface.ensures ∙ is)) c.args.self.now.block
    c.work_events.new.rows c.work_events.result c.work_events.ensures

-- What the loop keeps: the events so far are worked. Assumes nothing.
use Rattle.std.proofs.Common.{◌≡◌}
use Rattle.costs.specs.Entries.{entry_ops}
use Rattle.costs.specs.Lent.{list_at}
use Rattle.charts.specs.Cards.{EventBy}
use Rattle.charts.specs.Naming.{says}
use Rattle.charts.specs.Rows.{Listing}
use Rattle.charts.proofs.graph.Chart.work_events.Given as goal

abbrev pub invariant-loop-e : goal.invariant-loop-e
invariant-loop-e g l = record {
  listing : Listing (EventBy g.M.Measure.ops g.M.Measure.meant g.R.Reducer.gives (says l.self.sheet.now) (says l.self.sheet.now).face.kind (list_at l.lists.rows.now l.lists.lens)) (says l.self.sheet.now).face.inputs l.e (entry_ops g.M.Measure.ops).zero l.card.rows.now l.card.lens;
  same : l.card.rows.ghost_name ≡ l.initial.card.rows.ghost_name;
}

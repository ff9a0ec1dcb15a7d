-- What the loop keeps: the rows, with the lists that are still to come, are what is wanted. Assumes nothing.
use Rattle.std.proofs.Common.{◌≡◌, ◌*◌, ◌≤◌, ◌++◌, Bool, take, drop}
use Rattle.std.specs.List.{flat_map}
use Rattle.costs.specs.Lent.{list_at}
use Rattle.sheets.specs.declared.words.Transition.{Transition}
use Rattle.charts.specs.Charts.{dests}
use Rattle.charts.specs.Naming.{says}
use Rattle.charts.specs.Rows.{Tests}
use Rattle.charts.proofs.graph.Chart.gather.Given as goal

abbrev pub invariant-loop-t : goal.invariant-loop-t
invariant-loop-t g l = record {
  gathered : (p : Transition → Bool) → Tests (goal.F-post g l.is_meant) p → take l.n l.rows ++ flat_map (list_at l.lists.rows.now l.lists.lens) (dests p (drop l.t (says l.self.sheet.now).transitions)) ≡ flat_map (list_at l.lists.rows.now l.lists.lens) (dests p (says l.self.sheet.now).transitions);
  few : l.n ≤ 16 * l.t;
}

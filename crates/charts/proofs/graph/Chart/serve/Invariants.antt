-- What the loop keeps: the rows, with the entries that are still to come, are what is wanted. Assumes nothing.
use Rattle.std.proofs.Common.{◌≡◌, ◌≤◌, ◌++◌, length, take, drop}
use Rattle.charts.specs.Charts.{served_entries}
use Rattle.charts.specs.Naming.{says}
use Rattle.charts.proofs.graph.Chart.serve.Given as goal

abbrev pub invariant-loop-k : goal.invariant-loop-k
invariant-loop-k g l =
    (take l.n l.rows ++ served_entries g.M.Measure.meant l.f (drop l.k (says l.self.sheet.now).entries) ≡ served_entries g.M.Measure.meant l.f (says l.self.sheet.now).entries)
    × (l.n ≤ length l.rows)

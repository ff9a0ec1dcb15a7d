-- What the loop keeps: the lists of the events so far stand in the rows, and nothing else does. Assumes nothing.
use Rattle.std.proofs.Common.{◌≡◌, ℕ, ◌<◌, ◌≤◌, get_or}
use Rattle.costs.specs.Entries.{entry_ops}
use Rattle.networks.specs.Cards.{EventList}
use Rattle.networks.specs.Forming.{list}
use Rattle.networks.specs.Rows.{Padded, list_at, table_at}
use Rattle.networks.proofs.graph.Places.work_events.Given as goal

abbrev pub invariant-loop-e : goal.invariant-loop-e
invariant-loop-e g l =
    let rows = l.results.rows.now in
    let lens = l.results.lens in
    (l.results.rows.ghost_name ≡ l.initial.results.rows.ghost_name)
    × Padded (entry_ops g.M.Measure.ops).zero rows lens
    × ((d : ℕ) → l.e ≤ d → get_or lens d 0 ≡ 0)
    × ((d : ℕ) → d < l.e → 1 ≤ get_or lens d 0)
    × ((d : ℕ) → d < l.e → EventList g.M.Measure.ops g.R.Reducer.gives (table_at l.lists.rows.now l.lists.lens) l.self.net.connections.now d (list (list_at rows lens d)))

-- What the loop keeps: the places worked so far are formed in the table. Assumes nothing.
use Rattle.std.proofs.Common.{ℕ, ◌/◌, ◌%◌, take}
use Rattle.std.specs.List.{ContainsAt as Has}
use Rattle.networks.specs.Cards.{Formed}
use Rattle.networks.specs.Rows.{net_of, table_at}
use Rattle.networks.proofs.graph.Places.work_places.Given as goal

abbrev pub invariant-loop-k : goal.invariant-loop-k
invariant-loop-k g l =
    (m : ℕ) → Has (take l.k-index l.order) m → Formed g.M.Measure.ops g.R.Reducer.gives (net_of l.self.net (g.B.Beneath.faces l.self.beneath.now)) (g.B.Beneath.cards l.self.beneath.now) (table_at l.lists.rows.now l.lists.lens) (m / 8) (m % 8)

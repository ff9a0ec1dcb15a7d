-- What the loop keeps: what is left of the card entries, behind what stands in the pile, gives what all give. Assumes nothing.
use Rattle.std.proofs.Common.{◌*◌, ◌/◌, ◌≤◌, drop}
use Rattle.costs.specs.declared.entry.Entry.{Entry}
use Rattle.costs.specs.Forming.{Formation}
use Rattle.networks.specs.Cards.{Entries, PlaceList}
use Rattle.networks.specs.Drafts.{piled}
use Rattle.networks.specs.Rows.{table_at}
use Rattle.networks.proofs.graph.Places.place_list.Given as goal

abbrev pub invariant-loop-e : goal.invariant-loop-e
invariant-loop-e g l =
    let cs = l.self.net.connections.now in
    let T = table_at l.lists.rows.now l.lists.lens in
    (l.e-index ≤ l.pile.len) × (l.pile.len ≤ 16 * l.e-index)
    × ((q : Formation (Entry g.row.M.Denot)) → Entries g.M.Measure.ops g.R.Reducer.gives T cs (l.k / 8) (drop l.e-index l.e-items) (piled l.pile) q → PlaceList g.M.Measure.ops g.R.Reducer.gives T cs (l.k / 8) l.e-items q)

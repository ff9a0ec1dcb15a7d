-- All places are worked, or the first that is too long. Assumes nothing.
use Rattle.std.proofs.Common.{ℕ, List, take, inl, inr}
use Rattle.std.proofs.lemmas.Result.{MatchResult-weaker}
use Rattle.costs.specs.declared.entry.Entry.{Entry}
use Rattle.networks.proofs.Finish.{places_worked}
use Rattle.networks.proofs.graph.Places.work_table.Goals as goal
use Rattle.networks.specs.Rows.{net_of}

pub returns : goal.returns
returns g c =
    let places = c.args.self.now in
    let net = net_of places.net (g.B.Beneath.faces places.beneath.now) in
    let card : ℕ → ℕ → List (Entry g.row.M.Denot) = g.B.Beneath.cards places.beneath.now in
    let ws = take c.in_ok-count.count c.order.new.order in
    let planned = c.in_ok-count.ensures in
    let lists = c.work_places.new.lists in
    MatchResult-weaker c.work_places.result c.work_places.ensures
    (λ _ formed. (places_worked g.M.Measure.ops g.R.Reducer.gives net card places.given lists.rows.now lists.lens lists.lent ws planned.1 formed, planned.2))
    (λ e long. inr ((ws, planned.1), inr (planned.2, record { number_is = long.number_is; level_is = long.level_is; place_is = inl long.place_is })))

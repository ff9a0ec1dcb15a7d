-- The card is formed over the table of places. Assumes nothing.
use Rattle.std.proofs.Common.{ℕ, List, inr, arith}
use Rattle.std.proofs.lemmas.Result.{MatchResult-weaker}
use Rattle.costs.specs.declared.entry.Entry.{Entry}
use Rattle.order.proofs.Circles.{no_circle}
use Rattle.networks.proofs.Finish.{all_filled}
use Rattle.networks.proofs.graph.Places.work.Goals as goal
use Rattle.networks.specs.Cards.{TooLongEvent}
use Rattle.networks.specs.Rows.{net_of, table_at}

pub work_events-requires : goal.work_events-requires
work_events-requires g c =
    let places = c.args.self.now in
    let net = net_of places.net (g.B.Beneath.faces places.beneath.now) in
    let card : ℕ → ℕ → List (Entry g.row.M.Denot) = g.B.Beneath.cards places.beneath.now in
    let lists = c.work_table.new.lists in
    (omega arith, (all_filled g.M.Measure.ops g.R.Reducer.gives net card places.given lists.rows.now lists.lens lists.lent c.in_ok-work_table.ensures.0, omega arith))

pub returns-clause-card : goal.returns-clause-card
returns-clause-card g c =
    let places = c.args.self.now in
    let net = net_of places.net (g.B.Beneath.faces places.beneath.now) in
    let card : ℕ → ℕ → List (Entry g.row.M.Denot) = g.B.Beneath.cards places.beneath.now in
    let ops = g.M.Measure.ops in
    let gives = g.R.Reducer.gives in
    let lists = c.work_table.new.lists in
    let T = table_at lists.rows.now lists.lens in
    let worked = c.in_ok-work_table.ensures.0 in
    let none = c.in_ok-work_table.ensures.1 in
    MatchResult-weaker c.work_events.result c.work_events.ensures.events
    (λ ends events. record {
      formed = record { table = T; worked = worked; events = events };
      no_circle = no_circle worked.complete;
      none_full = none;
    })
    (λ e long.
    let stop = long.place_is in
    let over : TooLongEvent ops gives net card stop.event = record { event = stop.within; table = T; worked = worked; before = stop.before; stopped = stop.stopped } in
    inr ((worked.ws, worked.complete), inr (none, record { number_is = long.number_is; level_is = long.level_is; place_is = inr (stop.event, (stop.number, over)) })))

-- No circle, and no count of 255 at a connected output. Assumes nothing.
use Rattle.std.proofs.Common.{◌≡◌, ℕ, ◌*◌, List, take, sym, refl, subst, inl, inr, arith, rules, MatchResult}
use Rattle.std.proofs.lemmas.Result.{err_from_is_err_and}
use Rattle.costs.specs.declared.entry.Entry.{Entry}
use Rattle.order.specs.Order.{Below, Planned, Unworkable}
use Rattle.networks.proofs.Finish.{complete_nodes, circle_nodes, mapped_err, mapped_ok}
use Rattle.networks.proofs.graph.Places.order.Goals as goal
use Rattle.networks.specs.Networks.{Node, Leads}
use Rattle.networks.specs.Refusals.{Unworked}
use Rattle.networks.specs.Rows.{net_of}
use Rattle.networks.specs.declared.refusal.Refusal.{Refusal}
use Rattle.networks.specs.declared.refusal.Refusal.TheVariants.{Circle}

pub returns-in_err-count : goal.returns-in_err-count
returns-in_err-count g c =
    let places = c.args.self.now in
    let net = net_of places.net (g.B.Beneath.faces places.beneath.now) in
    let card : ℕ → ℕ → List (Entry g.row.M.Denot) = g.B.Beneath.cards places.beneath.now in
    let L = Leads net card in
    let N = Below (8 * net.instances) (Node net) in
    let from = mapped_err _ c.plan.result c.in_err-count.field-0.0 c.in_err-count.ensures.cases in
    let is : c.in_err-count.field-0.0 ≡ Circle from.0 = (let post = from.2 in search rules) in
    let found : Unworkable N L from.0 = subst (λ r. MatchResult r (Planned N L c.plan.new.order) (Unworkable N L)) from.1 c.plan.ensures.order in
    let p = err_from_is_err_and c.from_residual.result c.from_residual.ensures.1 in
    rw (p.1, p.2) (subst (Unworked g.M.Measure.ops g.R.Reducer.gives net card) (sym is) (inl (record { number_is = refl; level_is = refl; place_is = circle_nodes net card from.0 found })))

pub returns-in-Some : goal.returns-in-Some
returns-in-Some g c =
    let places = c.args.self.now in
    let net = net_of places.net (g.B.Beneath.faces places.beneath.now) in
    let card : ℕ → ℕ → List (Entry g.row.M.Denot) = g.B.Beneath.cards places.beneath.now in
    let L = Leads net card in
    let N = Below (8 * net.instances) (Node net) in
    let ws = take c.in_ok-count.count c.plan.new.order in
    let planned : Planned N L c.plan.new.order c.in_ok-count.count = subst (λ r. MatchResult r (Planned N L c.plan.new.order) (Unworkable N L)) (mapped_ok Refusal _ c.plan.result c.in_ok-count.count c.in_ok-count.ensures.cases (λ e no. no)) c.plan.ensures.order in
    inr ((ws, complete_nodes net card ws planned.complete), inl (record { number_is = refl; level_is = refl; place_is = c.in-Some.ensures }))

pub returns-in-None : goal.returns-in-None
returns-in-None g c =
    let places = c.args.self.now in
    let net = net_of places.net (g.B.Beneath.faces places.beneath.now) in
    let card : ℕ → ℕ → List (Entry g.row.M.Denot) = g.B.Beneath.cards places.beneath.now in
    let L = Leads net card in
    let N = Below (8 * net.instances) (Node net) in
    let ws = take c.in_ok-count.count c.plan.new.order in
    let planned : Planned N L c.plan.new.order c.in_ok-count.count = subst (λ r. MatchResult r (Planned N L c.plan.new.order) (Unworkable N L)) (mapped_ok Refusal _ c.plan.result c.in_ok-count.count c.in_ok-count.ensures.cases (λ e no. no)) c.plan.ensures.order in
    (omega (arith, planned.within, c.plan.auto.order), complete_nodes net card ws planned.complete, c.in-None.ensures)

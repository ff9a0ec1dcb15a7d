-- What `any` answers. Assumes nothing.
use Rattle.std.proofs.Common.{◌/◌, ◌%◌, List, sym, refl, subst, rules, tests}
use Rattle.std.proofs.lemmas.Iterator.{cases_from_any, YieldsList-from_slice}
use Rattle.costs.specs.declared.entry.Entry.{Entry}
use Rattle.order.specs.Order.{Any}
use Rattle.sheets.specs.declared.words.Connection.{Connection}
use Rattle.networks.specs.Rows.{net_of}
use Rattle.networks.specs.Ways.{SendsOn}
use Rattle.networks.proofs.Found.{decides_any}
use Rattle.networks.proofs.Ways.{full_from, full_to}
use Rattle.networks.proofs.graph.Places.is_full.Goals as goal

pub returns-then-is_place : goal.returns-then-is_place
returns-then-is_place g c =
    let k = c.args.k in
    let places = c.args.self.now in
    let cs = places.net.connections.now in
    let net = net_of places.net (g.B.Beneath.faces places.beneath.now) in
    let card : _ → _ → List (Entry g.row.M.Denot) = g.B.Beneath.cards places.beneath.now in
    let P : List (Entry g.row.M.Denot) → Connection → Type 0 = λ es a. SendsOn 255 es (k / 8) a.source in
    let one = P c.card-entries.result.now in
    let some = decides_any one c.any.result cs
    (cases_from_any _ _ c.any.result one (λ a. one a → ⊥) c.any.ensures.ran (YieldsList-from_slice cs cc) (λ x q k. search (rules, tests)) (λ x q k. search (rules, tests))) in (
      λ e. (c.if-is_place.ensures.0 refl, full_to net card (k / 8) (k % 8) (subst (λ es. Any (P es) cs) c.card-entries.ensures (some.0 e))),
      λ full. some.1 (subst (λ es. Any (P es) cs) (sym c.card-entries.ensures) (full_from net card (k / 8) (k % 8) full.1)),
    )

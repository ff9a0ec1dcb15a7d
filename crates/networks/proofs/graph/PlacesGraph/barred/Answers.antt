-- The way that is found is open; where none is, all ways lead to marked places. Assumes nothing.
use Rattle.std.proofs.Common.{ℕ, ◌*◌, ◌/◌, ◌%◌, List, length, Some, None, Option, MatchOption, ap, ◌∙◌, subst, arith, rules, tests}
use Rattle.std.specs.List.{AllWithin}
use Rattle.std.specs.Iterator.Runs.{ItemsMapTo}
use Rattle.costs.specs.declared.entry.Entry.{Entry}
use Rattle.order.specs.Order.{Any, Marked, Below, Ready, Barred}
use Rattle.sheets.specs.declared.words.Connection.{Connection}
use Rattle.networks.specs.Networks.{Network, Named, Node, Leads}
use Rattle.networks.specs.Rows.{net_of}
use Rattle.networks.specs.Ways.{Carries}
use Rattle.networks.proofs.Found.{any_then, found_mapped}
use Rattle.networks.proofs.Ways.{any_one, any_weaker, leads_from, leads_to, leads_node}
use Rattle.networks.proofs.graph.PlacesGraph.barred.Goals as goal

-- the same of places
ways : {M : Type 0} (net : Network) (card : ℕ → ℕ → List (Entry M)) (named : Named net) (Met : ℕ → Type 0) (k : ℕ) (r : Option ℕ) → let C = λ (d : ℕ) (a : Connection). Carries (card (k / 8) (k % 8)) (k / 8) d a in MatchOption r (AllWithin (λ a. (d : ℕ) → C d a → Met d) net.connections 0 (length net.connections)) (λ d. Any (λ a. C d a × (Met d → ⊥)) net.connections) → MatchOption r (Ready (Leads net card) Met k) (Barred (Below (8 * net.instances) (Node net)) (Leads net card) Met k)
ways net card named Met k None all = λ d leads.
    any_then (λ a. Carries (card (k / 8) (k % 8)) (k / 8) d a) (Met d) net.connections (λ i a low high carries. all i a low high d carries) (leads_from net card k d leads)
ways net card named Met k (Some d) some =
    let leads = leads_to net card k d (any_weaker _ _ (λ a both. both.0) net.connections some) in
    let node = leads_node net card named k d leads in
    record { node = (omega (arith, node.0), node); way = leads; unmet = (any_one _ net.connections some).1.1.1 }

pub returns : goal.returns
returns g c =
    let k = c.args.k in
    let places = c.args.self.now in
    let cs = places.net.connections.now in
    let M = Marked c.args.marks.now in
    let net = net_of places.net (g.B.Beneath.faces places.beneath.now) in
    let card : ℕ → ℕ → List (Entry g.row.M.Denot) = g.B.Beneath.cards places.beneath.now in
    let C : List (Entry g.row.M.Denot) → ℕ → Connection → Type 0 = λ es d. Carries es (k / 8) d in
    let es = c.card-entries.result.now in
    let found = found_mapped (λ a. (d : ℕ) → C es d a → M d) (λ a d. C es d a × (M d → ⊥)) (λ a r q call. search (rules, tests)) (λ x q call. search (rules, tests)) (λ x y q call. search (rules, tests)) c.find_map.result cs c.find_map.ensures.runs
    (λ p is. subst (ItemsMapTo p (λ y. y.now)) (ap (λ t. t.rest.now) is ∙ c.iter.ensures.rest) (c.iter.ensures.runs p p.seen)) in
    ways net card places.given.named M k c.find_map.result
    (subst (λ l. MatchOption c.find_map.result (AllWithin (λ a. (d : ℕ) → C l d a → M d) cs 0 (length cs)) (λ d. Any (λ a. C l d a × (M d → ⊥)) cs)) c.card-entries.ensures found)

-- The first that is found is the lowest. Assumes nothing.
use Rattle.std.proofs.Common.{ℕ, ◌*◌, ◌<◌, ◌≤◌, List, Some, None, Option, MatchOption, refl, subst, rules, tests, arith}
use Rattle.std.proofs.lemmas.Iterator.{first_from_Range}
use Rattle.costs.specs.declared.entry.Entry.{Entry}
use Rattle.networks.specs.Networks.{Network, FullAt, NoneFull}
use Rattle.networks.specs.Rows.{net_of}
use Rattle.networks.specs.Ways.{FullPlace}
use Rattle.networks.proofs.graph.Places.full_place.Goals as goal

lowest : {M : Type 0} (net : Network) (card : ℕ → ℕ → List (Entry M)) (r : Option ℕ) → MatchOption r ((k : ℕ) → 0 ≤ k → k < 8 * net.instances → FullPlace net card k → ⊥) (λ i. (0 ≤ i) × (i < 8 * net.instances) × FullPlace net card i × ((k : ℕ) → 0 ≤ k → k < i → FullPlace net card k → ⊥)) → MatchOption r (NoneFull net card) (FullAt net card)
lowest net card None h = λ m node full. h m (omega arith) (omega (arith, node.0)) (node.1, full)
lowest net card (Some i) h = record { node = (omega (arith, h.1), h.2.0); full = h.2.1; lowest = λ m below node full. h.3 m (omega arith) below (node.1, full) }

pub returns : goal.returns
returns g c =
    let places = c.args.self.now in
    let net = net_of places.net (g.B.Beneath.faces places.beneath.now) in
    let card : ℕ → ℕ → List (Entry g.row.M.Denot) = g.B.Beneath.cards places.beneath.now in
    let Here = FullPlace net card in
    lowest net card c.find.result (first_from_Range _ _ _ c.find.result Here (λ k. Here k → ⊥) c.find.ensures.ran (λ x q k. subst Here k.shows (k.called.met.1.0 refl)) (λ x q k. search (rules, tests)))

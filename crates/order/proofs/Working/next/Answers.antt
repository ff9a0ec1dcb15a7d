-- The first that is found is next. Assumes nothing.
use Rattle.std.proofs.Common.{ℕ, rules, arith}
use borrow.Author.Tests.{tests}
use Rattle.std.proofs.lemmas.Iterator.{first_from_Range}
use Rattle.order.specs.Order.{Below, Marked, Ready, Barred}
use Rattle.order.proofs.Found.{found_as}
use Rattle.order.proofs.Working.next.Goals as goal

pub returns : goal.returns
returns g c =
    let node = g.G.Graph.node c.args.self.now.graph.now in
    let leads = g.G.Graph.leads c.args.self.now.graph.now in
    let M = Marked c.args.self.now.marks.now in
    let Open : ℕ → Type 0 = λ k. (d : ℕ) × Barred (Below (g.G.Graph.nodes c.args.self.now.graph.now) node) leads M k d in
    found_as c.find.result
    (first_from_Range _ _ _ c.find.result (λ k. node k × (M k → ⊥) × Ready leads M k) (λ k. node k → (M k → ⊥) → Open k) c.find.ensures.ran (λ x q k. search (rules, tests)) (λ x q k. search (rules, tests)))
    (λ none t here un. none t (omega arith) (omega (arith, here.0)) here.1 un)
    (λ s found. record {
      node = (omega (arith, found.1), found.2.0);
      unworked = found.2.1;
      ready = found.2.2;
      lowest = λ t below here un ready. let open' : Open t = found.3 t (omega arith) below here.1 un in open'.1.unmet (ready open'.0 open'.1.way);
    })

-- The first that is found is the lowest. Assumes nothing.
use Rattle.std.proofs.Common.{ℕ, rules, ⊎_elim, arith}
use borrow.Author.Tests.{tests}
use Rattle.std.proofs.lemmas.Bool.{cases_Bool, both_ways}
use Rattle.std.proofs.lemmas.Iterator.{first_from_Range}
use Rattle.order.specs.Order.{Below, Marked}
use Rattle.order.proofs.Found.{found_as}
use Rattle.order.proofs.Working.lowest_left.Goals as goal

pub returns : goal.returns
returns g c =
    let Left : ℕ → Type 0 = λ k. g.G.Graph.node c.args.self.now.graph.now k × (Marked c.args.self.now.marks.now k → ⊥) in
    let marked = λ (k : ℕ) (none : Left k → ⊥) (node : Below (g.G.Graph.nodes c.args.self.now.graph.now) (g.G.Graph.node c.args.self.now.graph.now) k). ⊎_elim (λ t. t) (λ f. absurd (none (node.1, λ m. both_ways _ f m))) (cases_Bool _) in
    found_as c.find.result
    (first_from_Range _ _ _ c.find.result Left (λ k. Left k → ⊥) c.find.ensures.ran (λ x q k. search (rules, tests)) (λ x q k. search (rules, tests)))
    (λ none t node. marked t (none t (omega arith) (omega (arith, node.0))) node)
    (λ s found. ((omega (arith, found.1), found.2.0), (found.2.1, λ t below node. marked t (found.3 t (omega arith) below) node)))

-- The first that is found is the first. Assumes nothing.
use Rattle.std.proofs.Common.{◌≡◌, ℕ, zero, suc, ◌<◌, ◌≤◌, List, [], ◌∷◌, length, get_or, take, Some, None, Option, MatchOption, subst, rules, tests, arith}
use Rattle.std.specs.List.{AllByRecursion}
use Rattle.std.proofs.lemmas.Iterator.{first_from_Range}
use Rattle.std.proofs.lemmas.List.{take_all}
use Rattle.networks.specs.Networks.{Network, says, network_of, NamedConnection, Named}
use Rattle.networks.specs.Refusals.{FirstUnnamed, nth_connection, no_connection}
use Rattle.networks.proofs.naming.unnamed.Goals as goal

module _ {X : Type 0} (P : X → Type 0) (d : X) where
  -- what holds of each of the first n holds of them all
  all_each : (xs : List X) (n : ℕ) → n ≤ length xs → ((k : ℕ) → k < n → P (get_or xs k d)) → AllByRecursion P (take n xs)
  all_each xs zero within each = tt
  all_each [] (suc n) within each = absurd (omega arith)
  all_each (x ∷ xs) (suc n) within each = (each 0 (omega arith), all_each xs n (omega arith) (λ k below. each (suc k) (omega arith)))

first : (net : Network) (n : ℕ) → n ≡ length net.connections → (r : Option ℕ) → MatchOption r ((k : ℕ) → 0 ≤ k → k < n → NamedConnection net (nth_connection net.connections k)) (λ i. (0 ≤ i) × (i < n) × (NamedConnection net (nth_connection net.connections i) → ⊥) × ((k : ℕ) → 0 ≤ k → k < i → NamedConnection net (nth_connection net.connections k))) → MatchOption r (Named net) (FirstUnnamed net)
first net n long None h = subst (AllByRecursion (NamedConnection net)) (take_all (length net.connections) net.connections (omega arith)) (all_each (NamedConnection net) no_connection net.connections (length net.connections) (omega arith) (λ k below. h k (omega arith) (omega (arith, long, below))))
first net n long (Some i) h = record { within = omega (arith, long, h.1); before = all_each (NamedConnection net) no_connection net.connections i (omega (arith, long, h.1)) (λ k below. h.3 k (omega arith) below); wrong = h.2 }

pub returns : goal.returns
returns g c =
    let net = network_of (says c.args.sheet.now) (g.B.Beneath.faces c.args.beneath.now) in
    let Good : ℕ → Type 0 = λ k. NamedConnection net (nth_connection net.connections k) in
    first net c.count.result c.count.ensures c.find.result (first_from_Range _ _ _ c.find.result (λ k. Good k → ⊥) Good c.find.ensures.ran (λ x q k. search (rules, tests)) (λ x q k. search (rules, tests)))

-- A search among the numbers below n. Assumes nothing.
use Rattle.std.proofs.Common.{ℕ, ◌≤◌, ◌<◌, Bool, true, false, Some, None, Option, MatchOption, rules, arith}
use borrow.Author.Tests.{tests}
use Rattle.std.proofs.lemmas.Iterator.{first_from_Range}
use Rattle.charts.specs.Naming.{AllPass, FailsFirst}
use Rattle.charts.proofs.names.first_failing.Goals as goal

first_of : (answers : ℕ → Bool → Type 0) (n : ℕ) (o : Option ℕ) → MatchOption o ((k : ℕ) → 0 ≤ k → k < n → answers k true) (λ i. (0 ≤ i) × (i < n) × answers i false × ((k : ℕ) → 0 ≤ k → k < i → answers k true)) → MatchOption o (AllPass answers n) (FailsFirst answers n)
first_of answers n None all = record { each = λ k below. all k (omega arith) below }
first_of answers n (Some i) (low, high, fails, before) = record { within = high; before = record { each = λ k below. before k (omega arith) below }; fails = fails }

pub returns : goal.returns
returns g c =
    first_of (goal.F-post g c.args.passes) c.args.n c.find.result
    (first_from_Range _ _ _ _ (λ k. goal.F-post g c.args.passes k false) (λ k. goal.F-post g c.args.passes k true) c.find.ensures.ran (λ x q k. search (rules, tests)) (λ x q k. search (rules, tests)))

-- The first that is found is the first. Assumes nothing.
use Rattle.std.proofs.Common.{ℕ, ◌<◌, ◌≤◌, List, length, Some, None, Option, MatchOption, rules, tests, arith}
use Rattle.std.proofs.lemmas.Iterator.{first_from_Range}
use Rattle.sheets.specs.declared.words.Connection.{Connection}
use Rattle.networks.specs.Refusals.{RepeatedBy, Distinct, FirstRepeated}
use Rattle.networks.proofs.naming.repeated.Goals as goal

first : (cs : List Connection) (r : Option ℕ) → MatchOption r ((k : ℕ) → 0 ≤ k → k < length cs → RepeatedBy cs k → ⊥) (λ i. (0 ≤ i) × (i < length cs) × RepeatedBy cs i × ((k : ℕ) → 0 ≤ k → k < i → RepeatedBy cs k → ⊥)) → MatchOption r (Distinct cs) (FirstRepeated cs)
first cs None h = λ k within. h k (omega arith) within
first cs (Some i) h = record { within = h.1; before = λ j below. h.3 j (omega arith) below; repeated = h.2 }

pub returns : goal.returns
returns c =
    let cs = c.args.cs.now in
    first cs c.find.result (first_from_Range _ _ _ c.find.result (RepeatedBy cs) (λ k. RepeatedBy cs k → ⊥) c.find.ensures.ran (λ x q k. search (rules, tests)) (λ x q k. search (rules, tests)))

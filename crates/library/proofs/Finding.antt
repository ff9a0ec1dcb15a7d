-- All places that a test passed. Assumes nothing.
use Rattle.std.proofs.Common.{ℕ, ◌<◌, Bool, true, false, length, refl, ◌∙◌, subst, zero-add, arith, Decides, MatchBool}
use Rattle.std.specs.List.{AllWithin, HoldsAt, range_with_len}
use Rattle.std.proofs.lemmas.List.FromFn.{length-range_with_len, get_or-range_with_len}
use Rattle.std.proofs.lemmas.Bool.{false≢true}

-- what `all` over all places found holds of all
pub all_below : (P : ℕ → Type 0) (n : ℕ) (r : Bool)
    → MatchBool r (AllWithin P (range_with_len 0 n) 0 (length (range_with_len 0 n))) ((k : ℕ) × (k < length (range_with_len 0 n)) × HoldsAt (λ j. P j → ⊥) (range_with_len 0 n) k) → Decides r ((j : ℕ) → j < n → P j)
all_below P n true all = (λ _ j below. subst P (get_or-range_with_len 0 n j 0 below ∙ zero-add j) (all j 0 (omega arith) (omega (arith, length-range_with_len 0 n))), λ _. refl)
all_below P n false (k, below, fails) =
    let low : k < n = omega (arith, length-range_with_len 0 n) in
    (λ e. absurd (false≢true e), λ all. absurd (subst (λ j. P j → ⊥) (get_or-range_with_len 0 n k 0 low ∙ zero-add k) (fails 0) (all k low)))

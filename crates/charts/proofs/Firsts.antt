-- What a search among numbered elements says of the list. Assumes nothing.
use Rattle.std.proofs.Common.{◌≡◌, ℕ, ◌+◌, ◌<◌, Bool, true, false, MatchBool, Decides, List, length, get_or, take, is_some, Some, None, Option, sym, refl, ap, ◌∙◌, subst, zero-add, arith}
use borrow.Author.Tests.{clash}
use Rattle.std.specs.Option.{option_map}
use Rattle.std.specs.List.{AllByRecursion, AllWithin, HoldsAt, range_with_len}
use Rattle.std.proofs.ByRecursion.{All-get_or, All-from_get_or}
use Rattle.std.proofs.lemmas.List.{get_or-take, length-take}
use Rattle.std.proofs.lemmas.List.FromFn.{length-range_with_len, get_or-range_with_len}
use Rattle.charts.specs.Naming.{First, AllPass, FailsFirst}

module _ {X : Type 0} (P : X → Type 0) (xs : List X) (d : X) where
  module _ {answers : ℕ → Bool → Type 0} where
    -- all that a test passes have P, where it passes no other
    pub all_passed : AllPass answers (length xs) → ((k : ℕ) → answers k true → P (get_or xs k d)) → AllByRecursion P xs
    all_passed all passed = All-from_get_or P xs d (λ k below. passed k (all.each k below))

    -- the first that fails the test is the first that does not have P
    pub first_failed : (k : ℕ) → FailsFirst answers (length xs) k → ((j : ℕ) → answers j true → P (get_or xs j d)) → ((j : ℕ) → answers j false → P (get_or xs j d) → ⊥) → First P xs k
    first_failed k first passed failed = record {
      within = first.within;
      before = All-from_get_or P (take k xs) d (λ j below. let low : j < k = omega (arith, length-take k xs, first.within) in subst P (sym (get_or-take k xs j d low)) (passed j (first.before.each j low)));
      fails = λ all. let longer : k < length (take (k + 1) xs) = omega (arith, length-take (k + 1) xs, first.within) in
          failed k first.fails (subst P (get_or-take (k + 1) xs k d (omega arith)) (All-get_or P (take (k + 1) xs) k d longer all));
    }

  -- `all` over the numbers of the elements
  pub all_numbered : (n : ℕ) → length xs ≡ n → (r : Bool)
      → MatchBool r (AllWithin (λ j. P (get_or xs j d)) (range_with_len 0 n) 0 (length (range_with_len 0 n))) ((k : ℕ) × (k < length (range_with_len 0 n)) × HoldsAt (λ j. P (get_or xs j d) → ⊥) (range_with_len 0 n) k)
      → Decides r (AllByRecursion P xs)
  all_numbered n is true all = (λ _. All-from_get_or P xs d (λ k below. at k (omega arith)), λ _. refl)
    where
      at : (k : ℕ) → k < n → P (get_or xs k d)
      at k below = subst (λ j. P (get_or xs j d)) (get_or-range_with_len 0 n k 0 below ∙ zero-add k) (all k 0 (omega arith) (omega (arith, length-range_with_len 0 n)))
  all_numbered n is false (k, below, fails) = (λ e. absurd (clash e), λ all. absurd (at (All-get_or P xs k d (omega (arith, length-range_with_len 0 n)) all)))
    where
      at : P (get_or xs k d) → ⊥
      at = subst (λ j. P (get_or xs j d) → ⊥) (get_or-range_with_len 0 n k 0 (omega (arith, length-range_with_len 0 n)) ∙ zero-add k) (fails 0)

-- what an option holds whose image is known
pub some_mapped : {X Y : Type 0} (f : X → Y) (o : Option X) (y : Y) → option_map f o ≡ Some y → is_some o ≡ true
some_mapped f None y is = absurd (clash (ap is_some is))
some_mapped f (Some x) y is = refl

pub mapped_some : {X Y : Type 0} (f : X → Y) (o : Option X) (x : X) (y : Y) → o ≡ Some x → option_map f o ≡ Some y → f x ≡ y
mapped_some f o x y here is = let all : Some (f x) ≡ Some y = sym (ap (option_map f) here) ∙ is in cc

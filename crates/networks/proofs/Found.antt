-- What a search over a list answers, said of some element and of all. Assumes nothing.
use Rattle.std.proofs.Common.{◌≡◌, ℕ, zero, suc, ◌+◌, ◌<◌, ◌≤◌, Bool, true, false, get_or, subst, List, [], ◌∷◌, length, take, Some, None, Option, MatchOption, IfSome, IsTrue, Decides, MatchBool, ◌⊎◌, sym, refl, inl, inr, ⊎_elim, arith}
use Rattle.std.proofs.str.Laws.{order}
use Rattle.std.specs.List.{HoldsAt, AllWithin, AllByRecursion}
use borrow.Author.Tests.{clash}
use Rattle.std.specs.Option.{option_map, IsSomeAnd}
use Rattle.std.specs.Iterator.Runs.{Run, SomeRun, AllItemsGive, IsFirstToGive, ItemsMapTo, CallKeepsClosure}
use Rattle.std.specs.Array.{IsFromFnResult, IsFromFnResultFrom}
use Rattle.std.specs.Fn.{Called}
use denote.Param.Members.{Mut}
use Rattle.order.proofs.Ways.{any_at}
use Rattle.order.specs.Order.{Any}

module _ {X : Type 0} (P : X → Type 0) where
  held_any : (xs : List X) (k : ℕ) → k < length xs → HoldsAt P xs k → Any P xs
  held_any [] k within h = absurd (omega arith)
  held_any (x ∷ xs) zero within h = inl (h x)
  held_any (x ∷ xs) (suc k) within h = inr (held_any xs k (omega arith) h)

  -- what holds of some element, where that gives Q of each
  pub any_then : (Q : Type 0) (xs : List X) → AllWithin (λ x. P x → Q) xs 0 (length xs) → Any P xs → Q
  any_then Q [] all none = absurd none
  any_then Q (x ∷ xs) all (inl p) = all 0 x (omega arith) (omega arith) p
  any_then Q (x ∷ xs) all (inr h) = any_then Q xs (λ k d low high. all (suc k) d (omega arith) (omega arith)) h

  -- what `any` answers, by what its closure answers
  pub decides_any : (r : Bool) (xs : List X) → MatchBool r ((k : ℕ) × (k < length xs) × HoldsAt P xs k) (AllWithin (λ x. P x → ⊥) xs 0 (length xs)) → Decides r (Any P xs)
  decides_any true xs h = (λ _. held_any xs h.0 h.1 h.2, λ _. refl)
  decides_any false xs h = (λ e. absurd (clash e), λ a. absurd (any_then ⊥ xs h a))

-- what holds of the first n holds of each of them
pub all_within : {X : Type 0} (P : X → Type 0) (xs : List X) (n : ℕ) → n ≤ length xs → AllWithin P xs 0 n → AllByRecursion P (take n xs)
all_within P xs zero within all = tt
all_within P [] (suc n) within all = absurd (omega arith)
all_within P (x ∷ xs) (suc n) within all = (all 0 x (omega arith) (omega arith), all_within P xs n (omega arith) (λ k d low high. all (suc k) d (omega arith) (omega arith)))

-- each element of an array that a closure made, where its calls leave the closure as it was
module _ {F B : Type 0} (g : Mut F (ℕ × Unit {0}) B) (f : F) (P : ℕ → B → Type 0) (made : (k : ℕ) (y : B) (q : F) → Called g f (k, tt) y q → (q ≡ f) × P k y) where
  made_from : (ys : List B) (i n : ℕ) (p : F) → p ≡ f → IsFromFnResultFrom g p ys i n → (k : ℕ) (d : B) → i ≤ k → k < i + n → P k (get_or ys k d)
  made_from ys i zero p same h k d low high = absurd (omega arith)
  made_from ys i (suc n) p same (q, y, is, call, rest) k d low high =
      let one = made i y q (subst (λ r. Called g r (i, tt) y q) same call) in
      ⊎_elim
      (λ here. subst (λ j. P j (get_or ys j d)) (sym here) (subst (P i) (sym (is.1 d)) one.1))
      (λ past. made_from ys (i + 1) n q one.0 rest k d (omega arith) (omega arith))
      (cases_here k i low)
    where
      cases_here : (k i : ℕ) → i ≤ k → (k ≡ i) ⊎ (i + 1 ≤ k)
      cases_here k i low = ⊎_elim (λ over. inr (omega arith)) (λ under. inl (omega arith)) (order i k)

  pub made_each : (ys : List B) (n : ℕ) → IsFromFnResult g f ys n → (k : ℕ) (d : B) → k < n → P k (get_or ys k d)
  made_each ys n h k d within = made_from ys 0 n f refl h.each k d (omega arith) (omega arith)

-- what `find_map` answers, by what its closure answers
module _ {A B F R : Type 0} {v : A → B} {g : Mut F (A × Unit {0}) (Option R)} {f : F} (No : B → Type 0) (Yes : B → R → Type 0)
    (keeps : CallKeepsClosure g f) (none : (x : A) (q : F) → Called g f (x, tt) None q → No (v x)) (some : (x : A) (y : R) (q : F) → Called g f (x, tt) (Some y) q → Yes (v x) y) where
  no_item : (o : Option A) (e : B) → option_map v o ≡ Some e → IfSome o (λ x. Called g f (x, tt) None f) → No e
  no_item None e is call = absurd cc
  no_item (Some x) e is call = let same : v x ≡ e = cc in subst No same (none x f call)

  one_item : (y : R) (xs : List B) (i : ℕ) → i < length xs → (o : Option A) → ((d : B) → option_map v o ≡ Some (get_or xs i d)) → IsSomeAnd o (λ x. Called g f (x, tt) (Some y) f) → Any (λ x. Yes x y) xs
  one_item y xs i within None is call = absurd call
  one_item y xs i within (Some x) is call =
      let at = is (v x) in
      let same : v x ≡ get_or xs i (v x) = cc in
      any_at (λ b. Yes b y) xs i (v x) within (subst (λ b. Yes b y) same (some x y f call))

  pub found_mapped : {S : Type 0} {steps : S → Option A → S → Type 0} {s : S} (r : Option R) (xs : List B)
      → SomeRun steps s (λ p. MatchOption r (IsTrue p.whole × AllItemsGive p g f None) (λ y. (i : ℕ) × (i < p.len) × (p.len ≡ i + 1) × IsFirstToGive p g f (Some y) None i))
      → ((p : Run steps) → p.from ≡ s → ItemsMapTo p v xs) → MatchOption r (AllWithin No xs 0 (length xs)) (λ y. Any (λ x. Yes x y) xs)
  found_mapped None xs (p, from, said) maps =
      let m = maps p from in
      λ k d low within. no_item (p.at k) (get_or xs k d) (m.2 k d (omega (arith, m.1 said.0, within))) (said.1 keeps k)
  found_mapped (Some y) xs (p, from, said) maps =
      let m = maps p from in
      one_item y xs said.0 (omega (arith, m.0, said.1)) (p.at said.0) (λ d. m.2 said.0 d said.1) (said.3 keeps).0

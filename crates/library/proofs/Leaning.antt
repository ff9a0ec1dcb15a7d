-- When one of some blocks is marked. Assumes nothing.
use Rattle.std.proofs.Common.{◌≡◌, ℕ, zero, suc, ◌<◌, ◌≤◌, Bool, true, false, ◌&&◌, ltb, List, [], ◌∷◌, length, get_or, sym, refl, ◌∙◌, subst, zero-add, arith, MatchBool}
use Rattle.std.specs.List.{AllWithin, HoldsAt, range_with_len}
use Rattle.std.proofs.lemmas.List.{get_or_default}
use Rattle.std.proofs.lemmas.List.FromFn.{length-range_with_len, get_or-range_with_len}
use Rattle.std.proofs.lemmas.Bool.{and_parts, ltb-true, false_from_ne_true}
use Rattle.library.specs.Marks.{leans, NamesMarked}
use Rattle.library.specs.Tables.{row_at}
use Rattle.library.specs.declared.row.Row.{Row}
use Rattle.library.proofs.Marks.{leans_by}
use Rattle.library.proofs.Books.{among_at}

-- block k, below n, is marked
abbrev pub marks_below : List Row → ℕ → ℕ → Bool
marks_below index n k = ltb k n && (row_at index k).old

-- none of the first m names a marked block below n
abbrev pub NoneMarked : List Row → ℕ → List ℕ → ℕ → Type 0
NoneMarked index n ks m = (j : ℕ) → j < m → j < length ks → marks_below index n (get_or ks j 0) ≡ false

module _ (index : List Row) (n : ℕ) where
  pub leans_none : (ks : List ℕ) (m : ℕ) → length ks ≤ m → NoneMarked index n ks m → leans index n ks ≡ false
  leans_none [] m all h = refl
  leans_none (k ∷ ks) zero all h = absurd (omega arith)
  leans_none (k ∷ ks) (suc m) all h = rw (h 0 (omega arith) (omega arith)) (leans_none ks m (omega arith) (λ j l w. h (suc j) (omega (arith, l)) (omega (arith, w))))

-- what `any` over all names found
pub leans_any : (index : List Row) (n : ℕ) (ks : List ℕ) (m : ℕ) → m ≡ length ks → (r : Bool)
    → MatchBool r ((k : ℕ) × (k < length (range_with_len 0 m)) × HoldsAt (NamesMarked index n ks) (range_with_len 0 m) k) (AllWithin (λ j. NamesMarked index n ks j → ⊥) (range_with_len 0 m) 0 (length (range_with_len 0 m)))
    → r ≡ leans index n ks
leans_any index n ks m all true (k, below, holds) =
    let low : k < m = omega (arith, length-range_with_len 0 m) in
    let p = subst (NamesMarked index n ks) (get_or-range_with_len 0 m k 0 low ∙ zero-add k) (holds 0) in
    sym (leans_by index n _ ks (among_at ks k 255 p.name) p.below p.marked)
leans_any index n ks m all false h =
    sym (leans_none index n ks m (omega arith) (λ j l w. false_from_ne_true _ (λ e.
    let p = and_parts _ _ e in
    let is = get_or_default ks j 0 255 w in
    subst (λ i. NamesMarked index n ks i → ⊥) (get_or-range_with_len 0 m j 0 l ∙ zero-add j) (h j 0 (omega arith) (omega (arith, length-range_with_len 0 m)))
    (record { name = w; below = subst (λ x. x < n) is (ltb-true _ n p.0); marked = subst (λ x. (row_at index x).old ≡ true) is p.1 }))))

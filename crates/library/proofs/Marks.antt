-- What the marks on the rows say of the book. Assumes nothing.
use Rattle.std.proofs.Common.{◌≡◌, ℕ, ◌+◌, ◌<◌, ◌≤◌, Bool, true, false, ◌&&◌, ◌||◌, ltb, ◌⊎◌, List, [], ◌∷◌, length, set, sym, refl, ap, ◌∙◌, subst, inl, inr, ⊎_elim, arith}
use Rattle.std.proofs.lemmas.List.{get_or-set_same, get_or-set_other, length-set}
use Rattle.std.proofs.lemmas.Bool.{false≢true, cases_eq, and_parts, and_from, or_cases, or_left, or_right, ltb-true, lt-ltb}
use Rattle.costs.specs.Lists.{Among}
use Rattle.library.specs.Marks.{kept_names, leans, with_mark, Marked}
use Rattle.library.specs.Tables.{no_row, row_at}
use Rattle.library.specs.declared.row.Row.{Row}

-- one of these blocks is lower and marked
pub leans_some : (index : List Row) (n : ℕ) (names : List ℕ) → leans index n names ≡ true → (k : ℕ) × (Among k names × ((k < n) × ((row_at index k).old ≡ true)))
leans_some index n (k ∷ ks) h =
    ⊎_elim (λ e. let p = and_parts _ _ e in (k, (inl refl, (ltb-true k n p.0, p.1))))
    (λ e. let r = leans_some index n ks e in (r.0, (inr r.1.0, r.1.1)))
    (or_cases _ _ h)
leans_some index n [] h = absurd (false≢true h)

pub leans_by : (index : List Row) (n k : ℕ) (names : List ℕ) → Among k names → k < n → (row_at index k).old ≡ true → leans index n names ≡ true
leans_by index n k [] h lt old = absurd h
leans_by index n k (x ∷ xs) (inl e) lt old = or_left _ _ (subst (λ y. (ltb y n && (row_at index y).old) ≡ true) (sym e) (and_from _ _ (lt-ltb k n lt) old))
leans_by index n k (x ∷ xs) (inr h) lt old = or_right _ _ (leans_by index n k xs h lt old)

-- it goes by the marks of lower rows alone
pub leans_kept : (x y : List Row) (n : ℕ) (names : List ℕ) → ((l : ℕ) → l < n → (row_at y l).old ≡ (row_at x l).old) → leans y n names ≡ leans x n names
leans_kept x y n [] h = refl
leans_kept x y n (k ∷ ks) h = ap (λ t. t || leans y n ks) (guarded (ltb k n) refl) ∙ ap (λ t. (ltb k n && (row_at x k).old) || t) (leans_kept x y n ks h)
  where
    guarded : (t : Bool) → ltb k n ≡ t → (t && (row_at y k).old) ≡ (t && (row_at x k).old)
    guarded true e = h k (ltb-true k n e)
    guarded false e = refl

-- of the marking loop: rows below n are marked as they should be, the others are as they were
pub record Marking (wide : ℕ) (shelf : List ℕ) (block n : ℕ) (before now' : List Row) : Type 0 where
  pub same_length : length now' ≡ length before
  pub rows : (k : ℕ) → row_at now' k ≡ with_mark (row_at before k) (row_at now' k).old
  pub past : (k : ℕ) → n ≤ k → row_at now' k ≡ row_at before k
  pub itself : block < n → (row_at now' block).old ≡ true
  pub marks : (k : ℕ) → k < n → (k ≡ block → ⊥) → (row_at now' k).old ≡ ((row_at before k).old || leans now' k (kept_names wide shelf (row_at before k)))

module _ (wide : ℕ) (shelf : List ℕ) (block : ℕ) where
  pub marking_all : (n : ℕ) (before now' : List Row) → block < n → Marking wide shelf block n before now' → Marked wide shelf block n before now'
  marking_all n before now' lt h = record { same_length = h.same_length; rows = h.rows; past = h.past; itself = h.itself lt; marks = h.marks }

  or_true : (p q : Bool) → q ≡ true → true ≡ (p || q)
  or_true p q e = sym (or_right p q e)

  or_false : (p q : Bool) → q ≡ false → p ≡ (p || q)
  or_false true q e = refl
  or_false false q e = sym e

  module _ (n : ℕ) (before now' : List Row) (h : Marking wide shelf block n before now') where
    abbrev names : ℕ → List ℕ
    names k = kept_names wide shelf (row_at before k)

    pub marking_skip : (n ≡ block → ⊥) → leans now' n (names n) ≡ false → Marking wide shelf block (n + 1) before now'
    marking_skip ne no-lean = record {
      same_length = h.same_length;
      rows = h.rows;
      past = λ k l. h.past k (omega (arith, l));
      itself = λ l. h.itself (⊎_elim (λ e. absurd (ne (sym e))) (λ e. omega (arith, l, e)) (cases_eq block n));
      marks = λ k l nb. ⊎_elim
          (λ e. subst (λ y. (row_at now' y).old ≡ ((row_at before y).old || leans now' y (names y))) (sym e) (ap (λ (r : Row). r.old) (h.past n (omega arith)) ∙ or_false (row_at before n).old (leans now' n (names n)) no-lean))
          (λ e. h.marks k (omega (arith, l, e)) nb) (cases_eq k n);
    }

    pub marking_set : n < length now' → (n ≡ block) ⊎ (leans now' n (names n) ≡ true) → Marking wide shelf block (n + 1) before (set now' n (with_mark (row_at now' n) true))
    marking_set within why =
        let r = with_mark (row_at now' n) true in
        let same : row_at (set now' n r) n ≡ r = get_or-set_same now' n r no_row within in
        let others : (k : ℕ) → (k ≡ n → ⊥) → row_at (set now' n r) k ≡ row_at now' k = λ k ne. get_or-set_other now' n k r no_row ne in
        let keeps : (k : ℕ) → k ≤ n → leans (set now' n r) k (names k) ≡ leans now' k (names k) =
        λ k le. leans_kept now' (set now' n r) k (names k) (λ l lt. ap (λ (y : Row). y.old) (others l (λ e. omega (arith, e, lt, le)))) in
        record {
          same_length = length-set now' n r ∙ h.same_length;
          rows = λ k. ⊎_elim
              (λ e. subst (λ y. row_at (set now' n r) y ≡ with_mark (row_at before y) (row_at (set now' n r) y).old) (sym e)
              (same ∙ ap (λ (y : Row). with_mark y true) (h.past n (omega arith)) ∙ ap (with_mark (row_at before n)) (sym (ap (λ (y : Row). y.old) same))))
              (λ e. others k e ∙ h.rows k ∙ ap (with_mark (row_at before k)) (sym (ap (λ (y : Row). y.old) (others k e)))) (cases_eq k n);
          past = λ k l. others k (λ e. omega (arith, e, l)) ∙ h.past k (omega (arith, l));
          itself = λ l. ⊎_elim (λ e. subst (λ y. (row_at (set now' n r) y).old ≡ true) (sym e) (ap (λ (y : Row). y.old) same))
              (λ e. ap (λ (y : Row). y.old) (others block e) ∙ h.itself (omega (arith, l, e))) (cases_eq block n);
          marks = λ k l nb. ⊎_elim
              (λ e. subst (λ y. (row_at (set now' n r) y).old ≡ ((row_at before y).old || leans (set now' n r) y (names y))) (sym e)
              (ap (λ (y : Row). y.old) same ∙ or_true (row_at before n).old (leans (set now' n r) n (names n)) (keeps n (omega arith) ∙ ⊎_elim (λ w. absurd (nb (e ∙ w))) (λ w. w) why)))
              (λ e. ap (λ (y : Row). y.old) (others k e) ∙ h.marks k (omega (arith, l, e)) nb ∙ ap (λ w. (row_at before k).old || w) (sym (keeps k (omega (arith, l))))) (cases_eq k n);
        }

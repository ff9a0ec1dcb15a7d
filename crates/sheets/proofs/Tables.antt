-- The tests of the grammar's tables decide its relations. Assumes nothing.
use Rattle.std.proofs.Common.{◌≡◌, ℕ, ◌+◌, ◌*◌, ◌/◌, ◌%◌, ◌≤◌, true, false, ◌&&◌, eqb, leb, ◌⊎◌, List, [], ◌∷◌, Decides, sym, refl, ◌∙◌, subst, inl, inr, ⊎_elim, mul-le-mul_right, div-add-mod', arith}
use native.Mathlib.Nat.{mul-mod_left, div-le_of_le-mul}
use Rattle.std.specs.List.{AllByRecursion}
use Rattle.std.proofs.lemmas.Bool.{cases_eq, cond-true, cond-false, and_parts, and_from, eqb-true, eq-eqb, ne_eqb, leb-true, le-leb, false≢true}
use Rattle.sheets.specs.Frames.{Raw}
use Rattle.sheets.specs.Grammar.{highest, belongs_to, fits_of, interface_ok, heads_of}
use Rattle.sheets.specs.Lawful.{Heads, Belongs, Fits, Needed, Most, Follows, Whole}
use Rattle.sheets.specs.Lawful as L

heads_in : (t : ℕ) (c : List ℕ) → (eqb t 1 && interface_ok c) ≡ true → Heads (record { tag = t; content = c })
heads_in t [] ok = absurd (false≢true (and_parts _ _ ok).1)
heads_in t (k ∷ []) ok = absurd (false≢true (and_parts _ _ ok).1)
heads_in t (k ∷ i ∷ []) ok = absurd (false≢true (and_parts _ _ ok).1)
heads_in t (k ∷ i ∷ o ∷ []) ok =
    let z = and_parts (eqb t 1) (leb 1 k && leb k 3 && leb 1 i && leb i 8 && leb o 8) ok in
    let a = and_parts (leb 1 k && leb k 3 && leb 1 i && leb i 8) (leb o 8) z.1 in
    let b = and_parts (leb 1 k && leb k 3 && leb 1 i) (leb i 8) a.0 in
    let c = and_parts (leb 1 k && leb k 3) (leb 1 i) b.0 in
    let d = and_parts (leb 1 k) (leb k 3) c.0 in
    record {
      tag = eqb-true t 1 z.0;
      three = refl;
      some_kind = leb-true _ _ d.0;
      few_kinds = leb-true _ _ d.1;
      some_inputs = leb-true _ _ c.1;
      few_inputs = leb-true _ _ b.1;
      few_outputs = leb-true _ _ a.1;
    }
heads_in t (k ∷ i ∷ o ∷ x ∷ c) ok = absurd (false≢true (and_parts _ _ ok).1)

heads_out : (t : ℕ) (c : List ℕ) → Heads (record { tag = t; content = c }) → (eqb t 1 && interface_ok c) ≡ true
heads_out t [] h = absurd (omega (arith, h.three))
heads_out t (k ∷ []) h = absurd (omega (arith, h.three))
heads_out t (k ∷ i ∷ []) h = absurd (omega (arith, h.three))
heads_out t (k ∷ i ∷ o ∷ []) h =
    and_from _ _ (eq-eqb t 1 h.tag)
    (and_from _ _ (and_from _ _ (and_from _ _ (and_from _ _ (le-leb 1 k h.some_kind) (le-leb k 3 h.few_kinds)) (le-leb 1 i h.some_inputs)) (le-leb i 8 h.few_inputs)) (le-leb o 8 h.few_outputs))
heads_out t (k ∷ i ∷ o ∷ x ∷ c) h = absurd (omega (arith, h.three))

pub heads_decides : (f : Raw) → Decides (heads_of f) (Heads f)
heads_decides f = (heads_in f.tag f.content, heads_out f.tag f.content)

-- the tags of the three kinds, by number
abbrev pub Kinds : ℕ → ℕ → Type 0
Kinds k t = ((k ≡ 1) × (2 ≤ t) × (t ≤ 4)) ⊎ (((k ≡ 2) × (t ≡ 5)) ⊎ ((k ≡ 3) × (6 ≤ t) × (t ≤ 7)))

pub kinds : (k t : ℕ) → belongs_to k t ≡ true → Kinds k t
kinds k t h =
    ⊎_elim
    (λ one. let p = and_parts (leb 2 t) (leb t 4) (sym (cond-true _ _ _ (eq-eqb k 1 one)) ∙ h) in inl (one, leb-true 2 t p.0, leb-true t 4 p.1))
    (λ not1.
    let h1 = sym (cond-false (eqb k 1) (leb 2 t && leb t 4) _ (ne_eqb k 1 not1)) ∙ h in
    ⊎_elim
    (λ two. inr (inl (two, eqb-true t 5 (sym (cond-true _ _ _ (eq-eqb k 2 two)) ∙ h1))))
    (λ not2.
    let h2 = sym (cond-false (eqb k 2) (eqb t 5) _ (ne_eqb k 2 not2)) ∙ h1 in
    ⊎_elim
    (λ three. let p = and_parts (leb 6 t) (leb t 7) (sym (cond-true _ _ _ (eq-eqb k 3 three)) ∙ h2) in inr (inr (three, leb-true 6 t p.0, leb-true t 7 p.1)))
    (λ not3. absurd (false≢true (sym (cond-false (eqb k 3) (leb 6 t && leb t 7) false (ne_eqb k 3 not3)) ∙ h2)))
    (cases_eq k 3))
    (cases_eq k 2))
    (cases_eq k 1)

pub belongs_out : {k t : ℕ} → Belongs k t → belongs_to k t ≡ true
belongs_out L.Belongs.amounts = refl
belongs_out L.Belongs.state = refl
belongs_out L.Belongs.transition = refl
belongs_out L.Belongs.entry = refl
belongs_out L.Belongs.instance = refl
belongs_out L.Belongs.connection = refl

-- a kind and a tag by number
pub belongs_as : (k t k' t' : ℕ) → Belongs k t → k' ≡ k → t' ≡ t → Belongs k' t'
belongs_as k t k' t' b p q = subst (λ x. Belongs x t') (sym p) (subst (Belongs k) (sym q) b)

pub belongs_in : (k t : ℕ) → belongs_to k t ≡ true → Belongs k t
belongs_in k t h =
    ⊎_elim
    (λ p.
    ⊎_elim
    (λ two. belongs_as 1 2 k t L.Belongs.amounts p.0 two)
    (λ not2. ⊎_elim (λ three. belongs_as 1 3 k t L.Belongs.state p.0 three) (λ not3. belongs_as 1 4 k t L.Belongs.transition p.0 (omega (arith, p.1, p.2))) (cases_eq t 3))
    (cases_eq t 2))
    (⊎_elim
    (λ p. belongs_as 2 5 k t L.Belongs.entry p.0 p.1)
    (λ p. ⊎_elim (λ six. belongs_as 3 6 k t L.Belongs.instance p.0 six) (λ not6. belongs_as 3 7 k t L.Belongs.connection p.0 (omega (arith, p.1, p.2))) (cases_eq t 6)))
    (kinds k t h)

-- tags are from 2 to 7
pub tags : (k t : ℕ) → belongs_to k t ≡ true → (2 ≤ t) × (t ≤ 7)
tags k t h =
    ⊎_elim (λ p. (p.1, omega (arith, p.2))) (⊎_elim (λ p. (omega (arith, p.1), omega (arith, p.1))) (λ p. (omega (arith, p.1), p.2))) (kinds k t h)

fits_as : (w o t n t' n' : ℕ) → Fits w o t n → t' ≡ t → n' ≡ n → Fits w o t' n'
fits_as w o t n t' n' f p q = subst (λ x. Fits w o x n') (sym p) (subst (Fits w o t) (sym q) f)

at_tag : (t t' w o n : ℕ) → t ≡ t' → fits_of w o t n ≡ true → fits_of w o t' n ≡ true
at_tag t t' w o n e h = subst (λ x. fits_of w o x n ≡ true) e h

pub fits_in : (w o t n : ℕ) → 2 ≤ t → t ≤ 7 → fits_of w o t n ≡ true → Fits w o t n
fits_in w o t n low high h =
    ⊎_elim
    (λ e.
    let p = and_parts (leb n (16 * w)) (eqb (n % w) 0) (at_tag t 2 w o n e h) in
    let le : n ≤ w * 16 = omega (arith, leb-true n (16 * w) p.0) in
    fits_as w o 2 (n / w * w) t n (L.Fits.amounts (n / w) (div-le_of_le-mul w le)) e (omega (arith, div-add-mod' n w, eqb-true (n % w) 0 p.1)))
    (λ not2. ⊎_elim
    (λ e.
    let p = and_parts (leb n 8) (eqb (n % 2) 0) (at_tag t 3 w o n e h) in
    fits_as w o 3 (n / 2 * 2) t n (L.Fits.state (n / 2) (omega (arith, leb-true n 8 p.0))) e (omega (arith, div-add-mod' n 2, eqb-true (n % 2) 0 p.1)))
    (λ not3. ⊎_elim
    (λ e. fits_as w o 4 3 t n L.Fits.transition e (eqb-true n 3 (at_tag t 4 w o n e h)))
    (λ not4. ⊎_elim
    (λ e. fits_as w o 5 (1 + w + o) t n L.Fits.entry e (eqb-true n (1 + w + o) (at_tag t 5 w o n e h)))
    (λ not5. ⊎_elim
    (λ e. fits_as w o 6 1 t n L.Fits.instance e (eqb-true n 1 (at_tag t 6 w o n e h)))
    (λ not6. let e : t ≡ 7 = omega arith in fits_as w o 7 4 t n L.Fits.connection e (eqb-true n 4 (at_tag t 7 w o n e h)))
    (cases_eq t 6)) (cases_eq t 5)) (cases_eq t 4)) (cases_eq t 3)) (cases_eq t 2)

pub fits_out : {w o t n : ℕ} → Fits w o t n → fits_of w o t n ≡ true
fits_out {w} (L.Fits.amounts n le) = and_from _ _ (le-leb (n * w) (16 * w) (mul-le-mul_right w le)) (eq-eqb (n * w % w) 0 (mul-mod_left n w))
fits_out (L.Fits.state n le) = and_from _ _ (le-leb (n * 2) 8 (omega arith)) (eq-eqb (n * 2 % 2) 0 (mul-mod_left n 2))
fits_out L.Fits.transition = refl
fits_out {w} {o} L.Fits.entry = eq-eqb (1 + w + o) (1 + w + o) refl
fits_out L.Fits.instance = refl
fits_out L.Fits.connection = refl

pub ascending_in : (t : ℕ) (fs : List Raw) → highest fs ≤ t → AllByRecursion (λ g. g.tag ≤ t) fs
ascending_in t [] h = tt
ascending_in t (f ∷ fs) h = (omega arith, ascending_in t fs (omega arith))

pub ascending_out : (t : ℕ) (fs : List Raw) → 1 ≤ t → AllByRecursion (λ g. g.tag ≤ t) fs → highest fs ≤ t
ascending_out t [] one h = one
ascending_out t (f ∷ fs) one h = omega (arith, h.0, ascending_out t fs one h.1)

pub needed_is : {t : ℕ} → Needed t → (t ≡ 2) ⊎ ((t ≡ 3) ⊎ (t ≡ 6))
needed_is L.Needed.amounts = inl refl
needed_is L.Needed.state = inr (inl refl)
needed_is L.Needed.instance = inr (inr refl)

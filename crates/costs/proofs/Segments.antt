-- Lists that stand 16 rows apart: what a written one leaves of the others. Assumes nothing.
use Rattle.std.proofs.Common.{◌≡◌, ℕ, ◌+◌, ◌-◌, ◌*◌, ◌<◌, ◌≤◌, List, [], ◌∷◌, length, get_or, take, drop, set, sym, refl, ap, ◌∙◌, ⊎_elim, arith}
use borrow.Rule.Slice.PartMut.{put_mid, same_len_mid}
use Rattle.std.proofs.lemmas.List.{get_or-take, get_or-drop, get_or_past, drop-take, take-take, length-take-le, length-drop}
use Rattle.std.proofs.lemmas.Slice.{between-put_mid, drop-put_mid, take-put_mid_below}
use Rattle.std.proofs.str.Laws.{order}
use Rattle.costs.specs.Lent.{list_at, Lent}

module _ {X : Type 0} where
  pub length_part : (xs : List X) (a l : ℕ) → a + l ≤ length xs → length (take l (drop a xs)) ≡ l
  length_part xs a l within = length-take-le l (drop a xs) (simp length-drop (omega arith))

  -- the list that was written
  pub written : (xs ys : List X) (a k l : ℕ) → a ≤ length xs → length ys ≡ l → take l (drop a (put_mid a k xs ys)) ≡ ys
  written xs ys a k l within long =
      let same : (a + l) - a ≡ l = omega arith in
      ap (λ n. take n (drop a (put_mid a k xs ys))) (sym same) ∙ between-put_mid a k xs ys (a + l) within (long ∙ sym same)

  -- another list
  pub kept : (xs ys : List X) (s t k l : ℕ) → 16 * s + 16 ≤ length xs → k ≤ 16 → l ≤ 16 → length ys ≡ k → (t ≡ s → ⊥) → take l (drop (16 * t) (put_mid (16 * s) k xs ys)) ≡ take l (drop (16 * t) xs)
  kept xs ys s t k l within small short long apart =
      ⊎_elim
      (λ below.
      let zs = put_mid (16 * s) k xs ys in
      sym (drop-take (16 * t) l zs) ∙ ap (drop (16 * t)) (take-put_mid_below (16 * s) k xs ys (16 * t + l) (omega arith) (omega arith)) ∙ drop-take (16 * t) l xs)
      (λ above.
      let over : s < t = ⊎_elim (λ h. h) (λ h. absurd (apart (omega arith))) (order s t) in
      ap (take l) (drop-put_mid (16 * s) k xs ys (16 * t) (omega arith) (omega arith) long))
      (order t s)

  pub length_put : (xs ys : List X) (a k : ℕ) → a + k ≤ length xs → length ys ≡ k → length (put_mid a k xs ys) ≡ length xs
  length_put xs ys a k within long = same_len_mid a k xs ys (long ∙ sym (length_part xs a k within))

  -- an element outside of what was written
  pub put_rest : (xs ys : List X) (a k q : ℕ) (d : X) → a + k ≤ length xs → length ys ≡ k → (a ≤ q → q < a + k → ⊥) → get_or (put_mid a k xs ys) q d ≡ get_or xs q d
  put_rest xs ys a k q d within long apart =
      let zs = put_mid a k xs ys in
      ⊎_elim
      (λ below. sym (get_or-take a zs q d below) ∙ ap (λ l. get_or l q d) (take-put_mid_below a k xs ys a (omega arith) (omega arith)) ∙ get_or-take a xs q d below)
      (λ above.
      let past : a + k ≤ q = ⊎_elim (λ lt. absurd (apart above lt)) (λ le. le) (order q (a + k)) in
      let at : q + 0 ≡ q = omega arith in
      ap (λ i. get_or zs i d) (sym at) ∙ sym (get_or-drop q zs 0 d) ∙ ap (λ l. get_or l 0 d) (drop-put_mid a k xs ys q past (omega arith) long) ∙ get_or-drop q xs 0 d ∙ ap (λ i. get_or xs i d) at)
      (order q a)

pub length_list_at : {X : Type 0} (rows : List X) (lens : List ℕ) (d : ℕ) → Lent rows lens → length (list_at rows lens d) ≡ get_or lens d 0
length_list_at rows lens d lent =
    let room = lent.room in
    let short = lent.short d in
    ⊎_elim
    (λ below. length_part rows (16 * d) (get_or lens d 0) (omega arith))
    (λ above. let none = get_or_past lens d 0 above in ap (λ l. length (take l (drop (16 * d) rows))) none ∙ sym none)
    (order d (length lens))

pub set_alone : {X : Type 0} (xs : List X) (x : X) → length xs ≡ 1 → set xs 0 x ≡ x ∷ []
set_alone [] x long = absurd (omega arith)
set_alone (y ∷ []) x long = refl
set_alone (y ∷ z ∷ ys) x long = absurd (omega arith)

-- what stands in the first n rows
module _ {X : Type 0} (xs ys : List X) (n : ℕ) (same : take n xs ≡ take n ys) where
  pub same_part : (a l : ℕ) → a + l ≤ n → take l (drop a xs) ≡ take l (drop a ys)
  same_part a l within =
      sym (drop-take a l xs) ∙ ap (drop a) (sym (take-take (a + l) n xs within) ∙ ap (take (a + l)) same ∙ take-take (a + l) n ys within) ∙ drop-take a l ys

  pub same_at : (q : ℕ) (d : X) → q < n → get_or xs q d ≡ get_or ys q d
  same_at q d within = sym (get_or-take n xs q d within) ∙ ap (λ l. get_or l q d) same ∙ get_or-take n ys q d within

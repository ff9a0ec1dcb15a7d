-- Parts of lists, and lists with a part overwritten. Assumes nothing.
use Rattle.std.proofs.Common.{◌≡◌, ℕ, zero, suc, ◌+◌, ◌-◌, ◌≤◌, List, [], ◌∷◌, ◌++◌, length, take, drop, sym, refl, ap, ◌∙◌, arith}
use Rattle.std.proofs.lemmas.List.{length-append, length-take-le, length-drop, take-append-le, take_at, drop_at, drop-append-le, drop-drop, drop-take, take-take}
use Rattle.library.specs.Tables.{overwritten}

module _ {X : Type 0} where
  -- the length of a part
  pub length_part : (xs : List X) (a l : ℕ) → a + l ≤ length xs → length (take l (drop a xs)) ≡ l
  length_part xs a l within = length-take-le l (drop a xs) (simp length-drop (omega arith))

  take_none : (n : ℕ) → take {A = X} n [] ≡ []
  take_none zero = refl
  take_none (suc n) = refl

  -- one part and the next
  pub take_split : (m n : ℕ) (xs : List X) → take (m + n) xs ≡ take m xs ++ take n (drop m xs)
  take_split zero n xs = ap (λ k. take k xs) (let e : 0 + n ≡ n = omega arith in e)
  take_split (suc m) n [] = let e : suc m + n ≡ suc (m + n) = omega arith in ap (λ k. take {A = X} k []) e ∙ sym (take_none n)
  take_split (suc m) n (x ∷ xs) = let e : suc m + n ≡ suc (m + n) = omega arith in ap (λ k. take k (x ∷ xs)) e ∙ ap (λ l. x ∷ l) (take_split m n xs)

  -- a part of the first n
  pub part_take : (xs : List X) (a l n : ℕ) → a + l ≤ n → take l (drop a (take n xs)) ≡ take l (drop a xs)
  part_take xs a l n within = sym (drop-take a l (take n xs)) ∙ ap (drop a) (take-take (a + l) n xs within) ∙ drop-take a l xs

  module _ (xs : List X) (p : ℕ) (ys : List X) (low : p ≤ length xs) where
    front : length (take p xs) ≡ p
    front = length-take-le p xs low

    pub take_overwritten : (l : ℕ) → l ≤ p → take l (overwritten xs p ys) ≡ take l xs
    take_overwritten l below = take-append-le l (take p xs) (ys ++ drop (p + length ys) xs) (omega (arith, front)) ∙ take-take l p xs below

    pub drop_overwritten : drop p (overwritten xs p ys) ≡ ys ++ drop (p + length ys) xs
    drop_overwritten = drop_at (take p xs) (ys ++ drop (p + length ys) xs) p front

    -- what was written
    pub part_written : (l : ℕ) → l ≡ length ys → take l (drop p (overwritten xs p ys)) ≡ ys
    part_written l is = ap (take l) drop_overwritten ∙ take_at ys (drop (p + length ys) xs) l (sym is)

    -- what lies before it
    pub part_before : (a l : ℕ) → a + l ≤ p → take l (drop a (overwritten xs p ys)) ≡ take l (drop a xs)
    part_before a l below = sym (drop-take a l (overwritten xs p ys)) ∙ ap (drop a) (take_overwritten (a + l) below) ∙ drop-take a l xs

    -- what lies behind it
    pub drop_behind : (a : ℕ) → p + length ys ≤ a → drop a (overwritten xs p ys) ≡ drop a xs
    drop_behind a above =
        let k = a - (p + length ys) in
        let e : p + (length ys + k) ≡ a = omega arith in
        let f : (p + length ys) + k ≡ a = omega arith in
        ap (λ n. drop n (overwritten xs p ys)) (sym e) ∙ sym (drop-drop (length ys + k) p (overwritten xs p ys)) ∙ ap (drop (length ys + k)) drop_overwritten
        ∙ sym (drop-drop k (length ys) (ys ++ drop (p + length ys) xs)) ∙ ap (drop k) (drop_at ys (drop (p + length ys) xs) (length ys) refl) ∙ drop-drop k (p + length ys) xs ∙ ap (λ n. drop n xs) f

    pub length_overwritten : p + length ys ≤ length xs → length (overwritten xs p ys) ≡ length xs
    length_overwritten within =
        let d = length-drop (p + length ys) xs in
        length-append (take p xs) (ys ++ drop (p + length ys) xs) ∙ (omega (arith, front, length-append ys (drop (p + length ys) xs), d))

  -- a replacement within a part
  pub part_overwritten : (xs : List X) (a l p : ℕ) (ys : List X) → a + l ≤ length xs → p + length ys ≤ l → take l (drop a (overwritten xs (a + p) ys)) ≡ overwritten (take l (drop a xs)) p ys
  part_overwritten xs a l p ys within inside =
      let zs = drop ((a + p) + length ys) xs in
      let q = length ys in
      let r = l - (p + q) in
      let first : drop a (overwritten xs (a + p) ys) ≡ take p (drop a xs) ++ (ys ++ zs) =
      drop-append-le a (take (a + p) xs) (ys ++ zs) (omega (arith, length-take-le (a + p) xs (omega arith))) ∙ ap (λ k. k ++ (ys ++ zs)) (drop-take a p xs) in
      let e : l ≡ p + (q + r) = omega arith in
      let lp : length (take p (drop a xs)) ≡ p = length_part xs a p (omega arith) in
      let tail : drop (p + q) (take l (drop a xs)) ≡ take r zs =
      ap (λ k. drop (p + q) (take k (drop a xs))) (let f : l ≡ (p + q) + r = omega arith in f) ∙ drop-take (p + q) r (drop a xs) ∙ ap (take r) (drop-drop (p + q) a xs ∙ ap (λ k. drop k xs) (let f : a + (p + q) ≡ (a + p) + q = omega arith in f)) in
      ap (take l) first ∙ ap (λ k. take k (take p (drop a xs) ++ (ys ++ zs))) e ∙ take_split p (q + r) (take p (drop a xs) ++ (ys ++ zs))
      ∙ ap (λ k. k ++ take (q + r) (drop p (take p (drop a xs) ++ (ys ++ zs)))) (take_at (take p (drop a xs)) (ys ++ zs) p lp ∙ sym (take-take p l (drop a xs) (omega arith)))
      ∙ ap (λ k. take p (take l (drop a xs)) ++ k) (ap (take (q + r)) (drop_at (take p (drop a xs)) (ys ++ zs) p lp) ∙ take_split q r (ys ++ zs)
      ∙ ap (λ k. k ++ take r (drop q (ys ++ zs))) (take_at ys zs q refl) ∙ ap (λ k. ys ++ k) (ap (take r) (drop_at ys zs q refl) ∙ sym tail))

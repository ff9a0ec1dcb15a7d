-- `any`, by elements and over two lists. Assumes nothing.
use Rattle.std.specs.Prelude.{◌≡◌, Bool, true, false, ◌||◌, List, [], ◌∷◌, ◌++◌, refl}
use Rattle.std.proofs.Common.{◌∙◌, sym, ap, inl, inr, ⊎_elim}
use Rattle.std.specs.List.{AllByRecursion, list_any as any}
use Rattle.std.proofs.lemmas.List.Folds.{list_any-append}
use Rattle.std.proofs.lemmas.Bool.{or_left, or_right, or_from, or_parts, cases_Bool, both_ways}
use Rattle.costs.specs.Lists.{Among}

or_swap : (a b c d : Bool) → ((a || b) || (c || d)) ≡ ((a || c) || (b || d))
or_swap true b c d = refl
or_swap false true true d = refl
or_swap false true false d = refl
or_swap false false c d = refl

module _ {X : Type 0} where
  pub any_or : (p q : X → Bool) (xs : List X) → any (λ x. p x || q x) xs ≡ (any p xs || any q xs)
  any_or p q [] = refl
  any_or p q (x ∷ xs) = ap (λ b. (p x || q x) || b) (any_or p q xs) ∙ or_swap (p x) (q x) (any p xs) (any q xs)

  pub any_same : (p q : X → Bool) → ((x : X) → p x ≡ q x) → (xs : List X) → any p xs ≡ any q xs
  any_same p q h [] = refl
  any_same p q h (x ∷ xs) = ap (λ b. b || any p xs) (h x) ∙ ap (λ b. q x || b) (any_same p q h xs)

  pub any_push : (p : X → Bool) (xs : List X) (x : X) → any p xs ≡ false → p x ≡ false → any p (xs ++ x ∷ []) ≡ false
  any_push p xs x e h = list_any-append p xs (x ∷ []) ∙ or_from _ _ e (or_from _ _ h refl)

  pub any_none : (p : X → Bool) (xs : List X) → AllByRecursion (λ x. p x ≡ false) xs → any p xs ≡ false
  any_none p [] h = refl
  any_none p (x ∷ xs) h = or_from _ _ h.0 (any_none p xs h.1)

  pub any_not : (p : X → Bool) (xs : List X) (x : X) → Among x xs → any p xs ≡ false → p x ≡ false
  any_not p [] x a e = absurd a
  any_not p (y ∷ ys) x (inl is) e = ap p (sym is) ∙ (or_parts _ _ e).0
  any_not p (y ∷ ys) x (inr a) e = any_not p ys x a (or_parts (p y) _ e).1

  -- one that passes
  pub any_has : (p : X → Bool) (xs : List X) → any p xs ≡ true → (x : X) × (Among x xs × (p x ≡ true))
  any_has p [] h = absurd (both_ways _ refl h)
  any_has p (x ∷ xs) h = ⊎_elim (λ t. (x, (inl refl, t))) (λ f. let more = any_has p xs (sym (ap (λ b. b || any p xs) f) ∙ h) in (more.0, (inr more.1.0, more.1.1))) (cases_Bool (p x))

  pub any_at : (p : X → Bool) (xs : List X) (x : X) → Among x xs → p x ≡ true → any p xs ≡ true
  any_at p [] x a h = absurd a
  any_at p (y ∷ ys) x (inl is) h = or_left _ _ (ap p is ∙ h)
  any_at p (y ∷ ys) x (inr a) h = or_right (p y) _ (any_at p ys x a h)

-- Ways that stand in a list, one after another. Assumes nothing.
use Rattle.std.proofs.Common.{ℕ, zero, suc, ◌+◌, ◌<◌, ◌≤◌, ◌⊎◌, List, [], ◌∷◌, length, get_or, drop, inl, inr, arith}
use native.Mathlib.Numerals.{unary_clauses}
use Rattle.order.specs.Order.{Any}

module _ {X : Type 0} (P : X → Type 0) where
  pub any_at : (xs : List X) (i : ℕ) (x : X) → i < length xs → P (get_or xs i x) → Any P xs
  any_at [] i x within p = absurd (omega arith)
  any_at (y ∷ ys) zero x within p = inl p
  any_at (y ∷ ys) (suc i) x within p = inr (any_at ys i x (omega arith) p)

  -- of those from place i on, it is that at i or one from i + 1 on
  pub any_left : (xs : List X) (i : ℕ) (x : X) → Any P (drop i xs) → P (get_or xs i x) ⊎ Any P (drop (i + 1) xs)
  any_left [] zero x h = absurd h
  any_left [] (suc i) x h = absurd h
  any_left (y ∷ ys) zero x h = h
  any_left (y ∷ ys) (suc i) x h = simp unary_clauses (simp unary_clauses at (any_left ys i x h))

  pub any_past : (xs : List X) (i : ℕ) → length xs ≤ i → Any P (drop i xs) → ⊥
  any_past [] zero past h = h
  any_past [] (suc i) past h = h
  any_past (y ∷ ys) zero past h = absurd (omega arith)
  any_past (y ∷ ys) (suc i) past h = any_past ys i (omega arith) h

-- How keep and merge reduce a list; `any` says that some element passes a test. Opened by the worked cases alone. Assumes nothing.
use Rattle.std.specs.Prelude.{Bool, cond, not, ◌&&◌, List, [], ◌∷◌, ◌++◌}
use Rattle.std.specs.List.{list_any as any}
use Rattle.costs.specs.Amounts.{Amounts}
use Rattle.costs.specs.Lists.{merged}

module _ {X : Type 0} (ops : Amounts X) where
  -- x covers y and is different from it
  abbrev pub beats : X → X → Bool
  beats x y = ops.covers x y && not (ops.covers y x)

  -- x and y cover each other, so that they are equal
  abbrev pub equal : X → X → Bool
  equal x y = ops.covers x y && ops.covers y x

  -- x stays: no different one of the whole list covers it, and no earlier one equals it
  abbrev pub stays : List X → List X → X → Bool
  stays whole earlier x = not (any (λ y. beats y x) whole) && not (any (λ y. equal y x) earlier)

  -- of the rest those that stay, in order
  abbrev pub kept_after : List X → List X → List X → List X
  kept_after whole earlier [] = []
  kept_after whole earlier (x ∷ xs) = cond (stays whole earlier x) (x ∷ kept_after whole (earlier ++ x ∷ []) xs) (kept_after whole (earlier ++ x ∷ []) xs)

  -- keep: drops an entry that a different entry covers, or that equals an earlier one, and preserves the order
  unfoldable pub kept : List X → List X
  kept xs = kept_after xs [] xs

  -- merge: leaves the merged entry only
  unfoldable pub merged_alone : List X → List X
  merged_alone xs = merged ops xs ∷ []

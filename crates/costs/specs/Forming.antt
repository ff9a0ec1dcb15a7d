-- What forming a list comes to: a list of at most 16 entries, or a stop at the first reduced list that is longer. Assumes nothing.
use Rattle.std.specs.Prelude.{◌≡◌, ◌<◌, ◌≤◌, ◌⊎◌, List, length}

-- what forming one list comes to: the list, or a stop at a reduced list above 16
pub data Formation (X : Type 0) : Type 0 where
  list : List X → Formation X
  long : Formation X

-- the list as it stands
abbrev pub Is : {X : Type 0} → List X → Formation X → Type 0
Is xs (list ys) = ys ≡ xs
Is xs long = ⊥

-- one forming and then another, from what the first came to
abbrev pub Then : {X : Type 0} → (Formation X → Type 0) → (List X → Formation X → Type 0) → Formation X → Type 0
Then {X} P Q (list zs) = (ys : List X) × (P (list ys) × Q ys (list zs))
Then {X} P Q long = P long ⊎ ((ys : List X) × (P (list ys) × Q ys long))

-- xs reduced: what the reducer may give, if that has at most 16 entries
abbrev pub Reduces : {X : Type 0} → (List X → List X → Type 0) → List X → Formation X → Type 0
Reduces gives xs (list ys) = gives xs ys × (length ys ≤ 16)
Reduces {X} gives xs long = (ys : List X) × (gives xs ys × (16 < length ys))

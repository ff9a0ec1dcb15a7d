-- What forming a card comes to: lists of at most 16 entries, or a stop at the first that is longer. Assumes nothing.
use Rattle.std.specs.Prelude.{◌≡◌, ℕ, ◌⊎◌, List}
use Rattle.costs.specs.Forming.{Formation, list, long}

-- what forming a card comes to: the lists of all events, ascending, or refusal 10 at a place
pub data Outcome (X : Type 0) : Type 0 where
  made : List (List X) → Outcome X
  stops : ℕ → Outcome X

-- one list is formed, charged to place p where it is too long, and the rest from there
abbrev pub After : {X : Type 0} → (Formation X → Type 0) → ℕ → (List X → Outcome X → Type 0) → Outcome X → Type 0
After {X} P p Rest (made ls) = (xs : List X) × (P (list xs) × Rest xs (made ls))
After {X} P p Rest (stops q) = (P long × (q ≡ p)) ⊎ ((xs : List X) × (P (list xs) × Rest xs (stops q)))

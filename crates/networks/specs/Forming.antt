-- What forming a list comes to, as for every list of entries. Assumes nothing.
use Rattle.std.specs.Prelude.{List, Some, None, Option}
pub use Rattle.costs.specs.Forming.{Formation, list, long, Is, Then, Reduces}

-- the forming P came to the list xs, or it stopped at a reduced list above 16
abbrev pub Forms : {X : Type 0} → (Formation X → Type 0) → List X → Option (Unit {0}) → Type 0
Forms P xs (Some _) = P (list xs)
Forms P xs None = P long

-- Every row is what the closure gives. Assumes nothing.
use Rattle.std.proofs.Common.{◌≡◌, ℕ, zero, suc, List, [], ◌∷◌, get_or, refl, rules}
use Rattle.std.specs.List.{FoldsTo}
use Rattle.costs.specs.Entries.{entry_ops}
use Rattle.costs.proofs.lists.blank.Goals as goal

each : {X F : Type 0} (R : F → X → F → Type 0) (z : X) → ((p : F) (x : X) (q : F) → R p x q → x ≡ z) → (xs : List X) (p q : F) → FoldsTo R p xs q → (k : ℕ) → get_or xs k z ≡ z
each R z gives [] p q folds k = refl
each R z gives (x ∷ xs) p q folds zero = gives p x folds.0 folds.1
each R z gives (x ∷ xs) p q folds (suc k) = each R z gives xs folds.0 q folds.2 k

pub returns : goal.returns
returns g c = each _ (entry_ops g.M.Measure.ops).zero (λ p x q step. search rules) c.fill_with.new.self _ _ c.fill_with.ensures.ran.1

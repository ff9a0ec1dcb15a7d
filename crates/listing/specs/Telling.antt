-- A refusal as the programs tell it. Assumes nothing.
use Rattle.std.specs.Prelude.{◌≡◌}
use Rattle.library.specs.Refusals as L
use Rattle.listing.specs.declared.told.Told.{Told}

-- number, level and place are those of the refusal
pub record Tells (r : Told) (t : L.Told) : Type 0 where
  pub number : r.number ≡ t.number
  pub level : r.level ≡ t.level
  pub place : r.place ≡ t.place

-- How a connection leads from place to place. Assumes nothing.
use Rattle.std.specs.Prelude.{◌≡◌, ℕ, ◌/◌, ◌%◌, ◌<◌, ◌≤◌, List}
use Rattle.costs.specs.Entries.{count}
use Rattle.costs.specs.declared.entry.Entry.{Entry}
use Rattle.order.specs.Order.{Any}
use Rattle.sheets.specs.declared.words.Connection.{Connection}
use Rattle.sheets.specs.declared.words.End.{End}
use Rattle.sheets.specs.declared.words.End.TheVariants.{Inside}
use Rattle.networks.specs.Networks.{Network, Full}

-- the source is an output of instance i that some entry counts so often or more
pub record SendsOn {M : Type 0} (least : ℕ) (entries : List (Entry M)) (i : ℕ) (s : End) : Type 0 where
  pub output : ℕ
  pub is : s ≡ Inside i output
  pub counted : Any (λ e. least ≤ count e output) entries

-- the connection leads from such an output to place m
pub record Carries {M : Type 0} (entries : List (Entry M)) (i m : ℕ) (c : Connection) : Type 0 where
  pub source : SendsOn 1 entries i c.source
  pub target : c.target ≡ Inside (m / 8) (m % 8)

-- the number k is that of an event of its instance's block, and some entry for it counts 255 at a connected output
abbrev pub FullPlace : {M : Type 0} → Network → (ℕ → ℕ → List (Entry M)) → ℕ → Type 0
FullPlace net card k = (k % 8 < (net.faces (k / 8)).inputs) × Full net card (k / 8) (k % 8)

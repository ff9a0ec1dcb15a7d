-- Lists in lent rows, and what the card's rows hold. Assumes nothing.
use Rattle.std.specs.Prelude.{◌≡◌, ℕ, ◌+◌, ◌*◌, ◌<◌, ◌≤◌, Bool, true, false, List, [], ◌∷◌, length, drop, slice_index, slice_index_or}
use Rattle.std.specs.List.{AllByRecursion}
pub use Rattle.costs.specs.Lent.{list_at, Lent, Listed, Came, Stored, Padded}
use Rattle.costs.specs.Amounts.{Amounts}
use Rattle.costs.specs.Entries.{count}
use Rattle.costs.specs.Lists.{Sized}
use Rattle.costs.specs.declared.entry.Entry.{Entry}
use Rattle.sheets.specs.declared.words.Connection.{Connection}
use Rattle.sheets.specs.declared.words.End.{End}
use Rattle.sheets.specs.declared.words.End.TheVariants.{Outside, Inside}
use Rattle.costs.specs.Forming.{list, long}
use Rattle.networks.specs.Networks.{Network, targets}
use Rattle.networks.specs.Cards.{EventList}
use Rattle.networks.specs.declared.net.Net.{Net}
use Rattle.networks.specs.declared.beneath.Face.{Face}

-- the composite block that the connections read off a sheet stand for
abbrev pub net_of : Net → (ℕ → Face) → Network
net_of net faces = record { inputs = net.inputs; outputs = net.outputs; instances = net.instances; faces = faces; connections = net.connections.now }

-- the list of event f of instance i is list 8 i + f
abbrev pub table_at : {X : Type 0} → List X → List ℕ → ℕ → ℕ → List X
table_at rows lens i f = list_at rows lens (8 * i + f)

-- the target has a list
abbrev pub Filled : List ℕ → End → Type 0
Filled lens (Outside p) = p < 8
Filled lens (Inside i f) = 1 ≤ slice_index lens (8 * i + f)

-- the targets of each output of instance i that the entry counts have lists
abbrev pub Provided : {M : Type 0} → List ℕ → List Connection → ℕ → Entry M → Type 0
Provided lens cs i e = (o : ℕ) → 1 ≤ count e o → AllByRecursion (Filled lens) (targets cs (Inside i o))

-- the list is not empty
abbrev pub has_some : {X : Type 0} → List X → Bool
has_some [] = false
has_some (x ∷ xs) = true

-- n is 256 + event, the first of the composite's own events whose list is not formed
pub record EventStop {M : Type 0} (ops : Amounts M) (gives : List (Entry M) → List (Entry M) → Type 0) (table : ℕ → ℕ → List (Entry M)) (cs : List Connection) (inputs : ℕ) (n : ℕ) : Type 0 where
  pub event : ℕ
  pub number : n ≡ 256 + event
  pub within : event < inputs
  pub before : (d : ℕ) → d < event → (es : List (Entry M)) × EventList ops gives table cs d (list es)
  pub stopped : EventList ops gives table cs event long

-- lists of so many events in lent rows, x past each
pub record Finished {X : Type 0} (x : X) (inputs : ℕ) (rows : List X) (lens : List ℕ) : Type 0 where
  pub lent : Lent rows lens
  pub padded : Padded x rows lens
  pub unused : (e : ℕ) → inputs ≤ e → slice_index lens e ≡ 0
  pub some : (e : ℕ) → e < inputs → 1 ≤ slice_index lens e

-- the first 128 rows hold the card of a block with so many inputs: the list of event e in rows 16 e and on, the zero entry past it;
-- the eight lengths are those of the lists, 0 for a number that is no input; further rows are as they were
pub record CardRows {X : Type 0} (zero : X) (inputs : ℕ) (before after : List X) (lens : List ℕ) : Type 0 where
  pub eight : length lens ≡ 8
  pub sized : (e : ℕ) → e < inputs → Sized (list_at after lens e)
  pub unused : (e : ℕ) → inputs ≤ e → slice_index lens e ≡ 0
  pub padded : (e j : ℕ) → e < 8 → slice_index lens e ≤ j → j < 16 → slice_index_or after (16 * e + j) zero ≡ zero
  pub rest : drop 128 after ≡ drop 128 before

-- Refusals of a composite by number, level and place, and when each is given. Assumes nothing.
use Rattle.std.specs.Prelude.{◌≡◌, ℕ, ◌+◌, ◌<◌, ◌⊎◌, List, length, take, Some, slice_index_or}
use Rattle.std.specs.List.{slice_get, AllByRecursion}
use Rattle.costs.specs.Amounts.{Amounts}
use Rattle.costs.specs.Lists.{Among}
use Rattle.costs.specs.declared.entry.Entry.{Entry}
use Rattle.order.specs.Ways.{NoCircle}
use Rattle.sheets.specs.declared.words.Connection.{Connection}
use Rattle.sheets.specs.declared.words.End.TheVariants.{Outside}
use Rattle.networks.specs.declared.refusal.Refusal.{Refusal}
use Rattle.networks.specs.declared.refusal.Refusal.TheVariants.{Unnamed, Repeated, Circle, Full, TooLong}
use Rattle.networks.specs.Networks.{Network, NamedConnection, Named, Node, Leads, FullAt, NoneFull, CircleAt, WorkedIn}
use Rattle.networks.specs.Cards.{Card, TooLongAt, TooLongEvent}

-- 5: a connection's instance or port names nothing; 6: a connection repeated; 8: leading forms a circle;
-- 9: a count of 255 at a connected output; 10: a reduced list above 16
abbrev pub number : Refusal → ℕ
number (Unnamed at) = 5
number (Repeated at) = 6
number (Circle n) = 8
number (Full n) = 9
number (TooLong n) = 10

-- 1: the sheet; 3: the network
abbrev pub level : Refusal → ℕ
level (Unnamed at) = 1
level (Repeated at) = 1
level (Circle n) = 3
level (Full n) = 3
level (TooLong n) = 3

-- an offset in the sheet, in bytes; or 8 i + f, and 256 + event for the composite's own
abbrev pub place : Refusal → ℕ
place (Unnamed at) = at
place (Repeated at) = at
place (Circle n) = n
place (Full n) = n
place (TooLong n) = n

-- stands where there is no connection of a number
abbrev pub no_connection : Connection
no_connection = record { source = Outside 0; target = Outside 0 }

-- connection k of the list
abbrev pub nth_connection : List Connection → ℕ → Connection
nth_connection cs k = slice_index_or cs k no_connection

-- connection k is the first with an end that names nothing
pub record FirstUnnamed (net : Network) (k : ℕ) : Type 0 where
  pub within : k < length net.connections
  pub before : AllByRecursion (NamedConnection net) (take k net.connections)
  pub wrong : NamedConnection net (nth_connection net.connections k) → ⊥

-- connection k stands among those before it
abbrev pub RepeatedBy : List Connection → ℕ → Type 0
RepeatedBy cs k = Among (nth_connection cs k) (take k cs)

-- no connection is repeated
abbrev pub Distinct : List Connection → Type 0
Distinct cs = (k : ℕ) → k < length cs → RepeatedBy cs k → ⊥

-- connection k is the first that is repeated
pub record FirstRepeated (cs : List Connection) (k : ℕ) : Type 0 where
  pub within : k < length cs
  pub before : (j : ℕ) → j < k → RepeatedBy cs j → ⊥
  pub repeated : RepeatedBy cs k

-- the first connection of which P holds stands at the offset `at`
abbrev pub Placed : (ℕ → Type 0) → List ℕ → ℕ → Type 0
Placed P offsets at = (k : ℕ) × (P k × (slice_get offsets k ≡ Some at))

-- the refusal has that number and level, and P holds of its place
pub record Refused (n l : ℕ) (P : ℕ → Type 0) (e : Refusal) : Type 0 where
  pub number_is : number e ≡ n
  pub level_is : level e ≡ l
  pub place_is : P (place e)

-- check 5, then check 6, each over the whole sheet, at the offset of the first connection that fails it
abbrev pub Misnamed : Network → List ℕ → Refusal → Type 0
Misnamed net offsets e = Refused 5 1 (Placed (FirstUnnamed net) offsets) e ⊎ (Named net × Refused 6 1 (Placed (FirstRepeated net.connections) offsets) e)

module _ {M : Type 0} (ops : Amounts M) (gives : List (Entry M) → List (Entry M) → Type 0) (net : Network) (card : ℕ → ℕ → List (Entry M)) where
  -- every place can be worked
  abbrev pub Workable : Type 0
  Workable = (ws : List ℕ) × WorkedIn net card ws

  -- n is the first place in working order, or 256 + the first of the composite's own events, whose list is not formed
  abbrev pub TooLongIn : ℕ → Type 0
  TooLongIn n = TooLongAt ops gives net card n ⊎ ((e : ℕ) × ((n ≡ 256 + e) × TooLongEvent ops gives net card e))

  -- check 8, then check 9, then the working
  abbrev pub Unworked : Refusal → Type 0
  Unworked e = Refused 8 3 (CircleAt net card) e ⊎ (Workable × (Refused 9 3 (FullAt net card) e ⊎ (NoneFull net card × Refused 10 3 TooLongIn e)))

  -- the card is formed; leading forms no circle, and no count of 255 stands at a connected output
  pub record Carded (lists : ℕ → List (Entry M)) : Type 0 where
    pub formed : Card ops gives net card lists
    pub no_circle : NoCircle (Node net) (Leads net card)
    pub none_full : NoneFull net card

-- What the sheet of a composite block says, with the interfaces beneath: places, sources, targets, leading. Assumes nothing.
-- Glossary. Instance i is the i-th block inside. Place (i, f) is event f of instance i; its number is 8 i + f.
-- A source is an event from outside or an output of an instance; a target is an output to outside or a place.
use Rattle.std.specs.Prelude.{◌≡◌, ℕ, ◌/◌, ◌%◌, ◌<◌, ◌≤◌, Bool, false, cond, ◌&&◌, List, [], ◌∷◌, length, ◌==◌}
use Rattle.std.specs.List.{AllByRecursion}
use Rattle.costs.specs.Entries.{count}
use Rattle.costs.specs.Lists.{Among, Sized}
use Rattle.costs.specs.declared.entry.Entry.{Entry}
use Rattle.order.specs.Order.{Complete, Unworkable}
use Rattle.order.specs.Ways.{Endless}
use Rattle.sheets.specs.Sheets.{Sheet, sheet_of}
use Rattle.sheets.specs.declared.opened.Checked.{Checked}
use Rattle.sheets.specs.declared.words.Connection.{Connection}
use Rattle.sheets.specs.declared.words.End.{End}
use Rattle.sheets.specs.declared.words.End.TheVariants.{Outside, Inside}
use Rattle.networks.specs.declared.beneath.Face.{Face}

-- a composite block: its inputs and outputs, how many instances it has, the interface of each one's block, and its connections
pub record Network : Type 0 where
  pub inputs : ℕ
  pub outputs : ℕ
  pub instances : ℕ
  pub faces : ℕ → Face
  pub connections : List Connection

-- what a checked sheet says
abbrev pub says : Checked → Sheet
says sheet = sheet_of sheet.width.bytes sheet.bytes.now

-- the composite block of a sheet over the interfaces beneath
abbrev pub network_of : Sheet → (ℕ → Face) → Network
network_of sheet faces = record {
  inputs = sheet.face.inputs;
  outputs = sheet.face.outputs;
  instances = length sheet.instances;
  faces = faces;
  connections = sheet.connections;
}

-- whether two ends are the same
abbrev pub same : End → End → Bool
same (Outside p) (Outside q) = p == q
same (Outside p) (Inside j g) = false
same (Inside i f) (Outside q) = false
same (Inside i f) (Inside j g) = i == j && f == g

-- whether two connections are the same
abbrev pub same_ends : Connection → Connection → Bool
same_ends c d = same c.source d.source && same c.target d.target

-- the targets of a source, in sheet order; a source with none is not connected
abbrev pub targets : List Connection → End → List End
targets [] s = []
targets (c ∷ cs) s = cond (same c.source s) (c.target ∷ targets cs s) (targets cs s)

-- the outputs that a block can have, ascending
unfoldable pub outputs : List ℕ
outputs = 0 ∷ 1 ∷ 2 ∷ 3 ∷ 4 ∷ 5 ∷ 6 ∷ 7 ∷ []

-- event f of instance i is an input place
abbrev pub Place : Network → ℕ → ℕ → Type 0
Place net i f = (i < net.instances) × (f < (net.faces i).inputs)

-- the end names an event from outside or an output of an instance
abbrev pub Source : Network → End → Type 0
Source net (Outside e) = e < net.inputs
Source net (Inside i o) = (i < net.instances) × (o < (net.faces i).outputs)

-- the end names an output to outside or an input place
abbrev pub Target : Network → End → Type 0
Target net (Outside p) = p < net.outputs
Target net (Inside i f) = Place net i f

-- both ends of the connection name something
pub record NamedConnection (net : Network) (c : Connection) : Type 0 where
  pub source : Source net c.source
  pub target : Target net c.target

-- every connection names something
abbrev pub Named : Network → Type 0
Named net = AllByRecursion (NamedConnection net) net.connections

-- the number n is that of an input place
abbrev pub Node : Network → ℕ → Type 0
Node net n = Place net (n / 8) (n % 8)

-- the cards beneath are given as `card i f`, the list for event f on the card of the block of instance i
module _ {M : Type 0} (net : Network) (card : ℕ → ℕ → List (Entry M)) where
  -- what lies beneath keeps the limits of every block: at most eight inputs, and 1 to 16 entries for each event
  pub record Fit : Type 0 where
    pub narrow : (i : ℕ) → i < net.instances → (net.faces i).inputs ≤ 8
    pub sized : (i f : ℕ) → Place net i f → Sized (card i f)

  -- what a checked sheet, the check of its names and the limits beneath give together
  pub record Given : Type 0 where
    pub named : Named net
    pub fit : Fit
    pub instances : net.instances ≤ 16
    pub inputs : net.inputs ≤ 8
    pub outputs : net.outputs ≤ 8

  -- place n leads to place m: some card entry counts an output above zero from which a connection runs there
  pub record Leads (n m : ℕ) : Type 0 where
    pub entry : Entry M
    pub listed : Among entry (card (n / 8) (n % 8))
    pub output : ℕ
    pub counted : 0 < count entry output
    pub connected : Among (Inside (m / 8) (m % 8)) (targets net.connections (Inside (n / 8) output))

  -- some card entry for place (i, f) counts 255 at a connected output
  pub record Full (i f : ℕ) : Type 0 where
    pub entry : Entry M
    pub listed : Among entry (card i f)
    pub output : ℕ
    pub counted : count entry output ≡ 255
    pub connected : (t : End) × Among t (targets net.connections (Inside i output))

  -- n is the lowest place with such an entry
  pub record FullAt (n : ℕ) : Type 0 where
    pub node : Node net n
    pub full : Full (n / 8) (n % 8)
    pub lowest : (m : ℕ) → m < n → Node net m → Full (m / 8) (m % 8) → ⊥

  -- there is no such place
  abbrev pub NoneFull : Type 0
  NoneFull = (m : ℕ) → Node net m → Full (m / 8) (m % 8) → ⊥

  -- n is the lowest place that cannot be worked; from it leading goes on without end
  pub record CircleAt (n : ℕ) : Type 0 where
    pub unworkable : Unworkable (Node net) Leads n
    pub endless : Endless Leads n

  -- every place can be worked, in the order ws
  abbrev pub WorkedIn : List ℕ → Type 0
  WorkedIn ws = Complete (Node net) Leads ws

-- A sheet as a value: what its fields say, in order. Later layers speak of this value; offsets serve as a refusal's place.
-- Assumes nothing.
use Rattle.std.specs.Prelude.{ℕ, zero, suc, ◌+◌, ◌/◌, cond, List, [], ◌∷◌, ◌++◌, map, length, take, drop, ◌==◌}
use Rattle.std.specs.Option.{unwrap_or}
use Rattle.sheets.specs.Frames.{Raw, size, fields}
use Rattle.sheets.specs.Grammar.{byte}
use Rattle.sheets.specs.Fields.{kind_of, number_of, end_of}
use Rattle.sheets.specs.declared.words.Kind.TheVariants.{Basic}
use Rattle.sheets.specs.declared.words.Interface.{Interface}
use Rattle.sheets.specs.declared.words.Action.{Action}
use Rattle.sheets.specs.declared.words.Transition.{Transition}
use Rattle.sheets.specs.declared.words.Connection.{Connection}
use Rattle.sheets.specs.declared.words.Item.{Item}
use Rattle.sheets.specs.declared.words.Item.TheVariants.{State, Transition as OfTransition, Entry, Instance, Connection as OfConnection}

-- an entry of a service block: what a run may cost, by the bytes of its amount, and how often it sends each output
pub record Served : Type 0 where
  pub event : ℕ
  pub amount : List ℕ
  pub counts : List ℕ

-- a block as its sheet describes it
pub record Sheet : Type 0 where
  pub face : Interface
  -- the bytes of each algorithm's amount
  pub amounts : List (List ℕ)
  -- each state's actions
  pub states : List (List Action)
  pub transitions : List Transition
  pub entries : List Served
  -- the number of each instance's block
  pub instances : List ℕ
  pub connections : List Connection

-- the fields of a tag, in order, each with its offset where the first field of all stands at `at`
abbrev pub placed : ℕ → ℕ → List Raw → List (ℕ × Raw)
placed t at [] = []
placed t at (f ∷ fs) = cond (f.tag == t) ((at, f) ∷ placed t (at + size f) fs) (placed t (at + size f) fs)

-- the fields of a tag, in order
abbrev pub tagged : ℕ → List Raw → List Raw
tagged t [] = []
tagged t (f ∷ fs) = cond (f.tag == t) (f ∷ tagged t fs) (tagged t fs)

-- n parts of w bytes each, one after another
abbrev pub cut : ℕ → ℕ → List ℕ → List (List ℕ)
cut w zero bs = []
cut w (suc n) bs = take w bs ∷ cut w n (drop w bs)

-- the amounts in the content of the field that holds them
abbrev pub amounts_at : ℕ → List ℕ → List (List ℕ)
amounts_at w c = cut w (length c / w) c

-- an action for each two bytes
abbrev pub actions_at : List ℕ → List Action
actions_at [] = []
actions_at (a ∷ []) = []
actions_at (a ∷ o ∷ rest) = record { algorithm = number_of a; output = number_of o } ∷ actions_at rest

abbrev pub interface_at : Raw → Interface
interface_at f = record { kind = unwrap_or (kind_of (byte f 0)) Basic; inputs = byte f 1; outputs = byte f 2 }

abbrev pub transition_at : Raw → Transition
transition_at f = record { source = byte f 0; destination = byte f 1; event = number_of (byte f 2) }

-- the event, then an amount of w bytes, then the counts
abbrev pub served_at : ℕ → Raw → Served
served_at w f = record { event = byte f 0; amount = take w (drop 1 f.content); counts = drop (1 + w) f.content }

abbrev pub connection_at : Raw → Connection
connection_at f = record { source = end_of (byte f 0) (byte f 1); target = end_of (byte f 2) (byte f 3) }

-- no bytes make no sheet; this is the value given to them all the same
abbrev pub no_field : Raw
no_field = record { tag = 0; content = [] }

abbrev pub first_of : List Raw → Raw
first_of [] = no_field
first_of (f ∷ fs) = f

abbrev pub sheet_from : ℕ → List Raw → Sheet
sheet_from w fs =
    record {
      face = interface_at (first_of fs);
      amounts = amounts_at w (first_of (tagged 2 fs)).content;
      states = map (λ f. actions_at f.content) (tagged 3 fs);
      transitions = map transition_at (tagged 4 fs);
      entries = map (served_at w) (tagged 5 fs);
      instances = map (λ f. byte f 0) (tagged 6 fs);
      connections = map connection_at (tagged 7 fs);
    }

-- what the bytes say of a block, at a width of amounts
unfoldable pub sheet_of : ℕ → List ℕ → Sheet
sheet_of w bs = sheet_from w (fields bs)

-- how many of an item a sheet has
abbrev pub count_of : Item → Sheet → ℕ
count_of State s = length s.states
count_of OfTransition s = length s.transitions
count_of Entry s = length s.entries
count_of Instance s = length s.instances
count_of OfConnection s = length s.connections

abbrev pub tag_of : Item → ℕ
tag_of State = 3
tag_of OfTransition = 4
tag_of Entry = 5
tag_of Instance = 6
tag_of OfConnection = 7

-- the offsets of an item's fields, in order, in bytes
unfoldable pub offsets_of : Item → List ℕ → List ℕ
offsets_of i bs = map (λ p. p.0) (placed (tag_of i) 0 (fields bs))

-- the bytes with new ones in the place of those from p on
abbrev pub replaced : List ℕ → ℕ → List ℕ → List ℕ
replaced bs p new = take p bs ++ (new ++ drop (p + length new) bs)

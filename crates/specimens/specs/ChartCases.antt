-- Worked cases of basic blocks, in ticks with keep; an entry is written (amount in ticks; counts). Assumes nothing.
use Rattle.std.specs.Prelude.{◌≡◌, ℕ, ◌<◌, List, [], ◌∷◌, map, Some, None, slice_index_or}
use Rattle.costs.specs.Amounts.{Amounts}
use Rattle.costs.specs.Entries.{entry_ops}
use Rattle.costs.specs.Lists.{By}
use Rattle.costs.specs.Measures.{ticks_ops, ticks_meant}
use Rattle.costs.specs.Reducers.{kept}
use Rattle.costs.specs.declared.entry.Entry.{Entry}
use Rattle.costs.specs.declared.ticks.Ticks.{Ticks}
use Rattle.order.specs.Order.{Complete}
use Rattle.sheets.specs.Sheets.{Sheet, sheet_of}
use Rattle.sheets.specs.declared.words.Kind.TheVariants.{Basic}
use Rattle.charts.specs.Forming.{Outcome, made, stops}
use Rattle.charts.specs.Charts.{guarded, State, Leads}
use Rattle.charts.specs.Cards.{BasicCard}

-- an entry in numbers: its amount in ticks, and its eight counts
abbrev pub shown : Entry Ticks → ℕ × List ℕ
shown e = (e.amount.value, e.counts.at)

-- the lists of all events in numbers
abbrev pub lists_shown : Outcome (Entry Ticks) → List (List (ℕ × List ℕ))
lists_shown (made ls) = map (map shown) ls
lists_shown (stops place) = []

-- (a; n): an amount, and n counts at the first output
abbrev pub written : ℕ → ℕ → ℕ × List ℕ
written a n = (a, n ∷ 0 ∷ 0 ∷ 0 ∷ 0 ∷ 0 ∷ 0 ∷ 0 ∷ [])

-- forming in ticks with keep
abbrev pub Card : Sheet → List ℕ → Outcome (Entry Ticks) → Type 0
Card sheet ws o = BasicCard ticks_ops ticks_meant (By (kept (entry_ops ticks_ops))) sheet ws o

-- the states are worked in the order ws, forming comes to something, and whatever it comes to is this
pub record Gives (sheet : Sheet) (ws : List ℕ) (lists : List (List (ℕ × List ℕ))) : Type 0 where
  pub order : Complete (State sheet) (Leads sheet) ws
  pub formed : (o : Outcome (Entry Ticks)) × Card sheet ws o
  pub exactly : (o : Outcome (Entry Ticks)) → Card sheet ws o → lists_shown o ≡ lists

-- an event that guards nothing has (0; 0), in every measure, by every reducer
abbrev pub NothingGuarded : {M : Type 0} → Amounts M → (List ℕ → M) → (List (Entry M) → List (Entry M) → Type 0) → Type 0
NothingGuarded {M} ops meant gives =
    (sheet : Sheet) (ws : List ℕ) (ls : List (List (Entry M))) → BasicCard ops meant gives sheet ws (made ls) → (e : ℕ) → e < sheet.face.inputs → guarded sheet e ≡ [] → slice_index_or ls e [] ≡ (entry_ops ops).zero ∷ []

-- an event enters state 0 of cost (2; 0), whose event-free transitions lead to states of cost (5; 0) and (1; 1)
abbrev pub branching : Sheet
branching = record {
  face = record { kind = Basic; inputs = 1; outputs = 1 };
  amounts = (0 ∷ 0 ∷ 0 ∷ 2 ∷ []) ∷ (0 ∷ 0 ∷ 0 ∷ 5 ∷ []) ∷ (0 ∷ 0 ∷ 0 ∷ 1 ∷ []) ∷ [];
  states = (record { algorithm = Some 0; output = None } ∷ []) ∷ (record { algorithm = Some 1; output = None } ∷ []) ∷ (record { algorithm = Some 2; output = Some 0 } ∷ []) ∷ [];
  transitions = record { source = 0; destination = 0; event = Some 0 } ∷ record { source = 0; destination = 1; event = None } ∷ record { source = 0; destination = 2; event = None } ∷ [];
  entries = [];
  instances = [];
  connections = [];
}

-- then it has (7; 0), (3; 1)
abbrev pub TwoBranches : Type 0
TwoBranches = Gives branching (1 ∷ 2 ∷ 0 ∷ []) ((written 7 0 ∷ written 3 1 ∷ []) ∷ [])

-- the example sheet, in bytes
abbrev pub example : List ℕ
example = 1 ∷ 0 ∷ 3 ∷ 1 ∷ 1 ∷ 1 ∷ 2 ∷ 0 ∷ 4 ∷ 0 ∷ 0 ∷ 0 ∷ 7 ∷ 3 ∷ 0 ∷ 0 ∷ 3 ∷ 0 ∷ 2 ∷ 0 ∷ 0 ∷ 4 ∷ 0 ∷ 3 ∷ 0 ∷ 1 ∷ 0 ∷ 4 ∷ 0 ∷ 3 ∷ 1 ∷ 0 ∷ 255 ∷ []

-- it has (7; 1)
abbrev pub ExampleSheet : Type 0
ExampleSheet = Gives (sheet_of 4 example) (0 ∷ 1 ∷ []) ((written 7 1 ∷ []) ∷ [])

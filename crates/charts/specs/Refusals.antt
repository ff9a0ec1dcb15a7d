-- Refusals by number, level and place, and what the working of a sheet answers. Assumes nothing.
use Rattle.std.specs.Prelude.{ℕ, zero, suc, ◌+◌, List, [], ◌∷◌}
use Rattle.costs.specs.Amounts.{Amounts}
use Rattle.costs.specs.declared.entry.Entry.{Entry}
use Rattle.costs.specs.Lent.{list_at}
use Rattle.order.specs.Order.{Complete, Unworkable}
use Rattle.order.specs.Ways.{Endless}
use Rattle.sheets.specs.Sheets.{Sheet}
use Rattle.sheets.specs.declared.words.Kind.{Kind}
use Rattle.sheets.specs.declared.words.Kind.TheVariants.{Basic, Service, Composite}
use Rattle.charts.specs.Forming.{Outcome, stops}
use Rattle.charts.specs.Charts.{State, Leads}
use Rattle.charts.specs.Cards.{BasicCard, ServiceCard}
use Rattle.charts.specs.declared.refusal.Refusal.{Refusal}
use Rattle.charts.specs.declared.refusal.Refusal.TheVariants.{Unnamed, Circle, TooLong}

-- 5: a number names nothing; 8: a circle; 10: a reduced list above 16
abbrev pub number : Refusal → ℕ
number (Unnamed at) = 5
number (Circle state) = 8
number (TooLong at) = 10

-- 1: a fault of the sheet; 2: of the chart
abbrev pub level : Refusal → ℕ
level (Unnamed at) = 1
level (Circle state) = 2
level (TooLong at) = 2

-- an offset in the sheet, in bytes; a state; a state or 256 + an event
abbrev pub place : Refusal → ℕ
place (Unnamed at) = at
place (Circle state) = state
place (TooLong at) = at

module _ {M : Type 0} (ops : Amounts M) (meant : List ℕ → M) (gives : List (Entry M) → List (Entry M) → Type 0) (sheet : Sheet) where
  -- what forming the card comes to, by the kind of block; all states can be worked
  abbrev pub CardBy : Kind → Outcome (Entry M) → Type 0
  CardBy Basic o = (ws : List ℕ) × (Complete (State sheet) (Leads sheet) ws × BasicCard ops meant gives sheet ws o)
  CardBy Service o = ServiceCard ops meant gives sheet o
  CardBy Composite o = ⊥

-- s is the lowest state of a basic block that cannot be worked
abbrev pub CircleBy : Sheet → Kind → ℕ → Type 0
CircleBy sheet Basic s = Unworkable (State sheet) (Leads sheet) s
CircleBy sheet Service s = ⊥
CircleBy sheet Composite s = ⊥

-- what a refusal of the working says: 8 at the lowest state that cannot be worked, from which event-free transitions go on without end;
-- 10 where, with all states workable, forming stops at its place
abbrev pub RefusedBy : {M : Type 0} → Amounts M → (List ℕ → M) → (List (Entry M) → List (Entry M) → Type 0) → Sheet → Kind → Refusal → Type 0
RefusedBy ops meant gives sheet kind (Unnamed at) = ⊥
RefusedBy ops meant gives sheet kind (Circle state) = CircleBy sheet kind state × Endless (Leads sheet) state
RefusedBy ops meant gives sheet kind (TooLong at) = CardBy ops meant gives sheet kind (stops at)

-- refusal 8, at a state of which P holds
abbrev pub CircleAt : (ℕ → Type 0) → Refusal → Type 0
CircleAt P (Unnamed at) = ⊥
CircleAt P (Circle state) = P state
CircleAt P (TooLong at) = ⊥

-- refusal 10, at a place of which P holds
abbrev pub TooLongAt : (ℕ → Type 0) → Refusal → Type 0
TooLongAt P (Unnamed at) = ⊥
TooLongAt P (Circle state) = ⊥
TooLongAt P (TooLong at) = P at

-- the lists of n events, from event e on, in a card's rows: 16 rows for each event, of which as many count as its length says
abbrev pub lists_at : {X : Type 0} → List X → List ℕ → ℕ → ℕ → List (List X)
lists_at rows lens zero e = []
lists_at rows lens (suc n) e = list_at rows lens e ∷ lists_at rows lens n (e + 1)

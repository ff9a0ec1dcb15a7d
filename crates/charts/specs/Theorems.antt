-- What is shown of a card, in the words of runs. Assumes nothing.
use Rattle.std.specs.Prelude.{◌≡◌, ℕ, ◌<◌, List, [], length, slice_index_or}
use Rattle.costs.specs.Amounts.{Amounts}
use Rattle.costs.specs.Lists.{Sized, Computes}
use Rattle.costs.specs.Runs.{CoversRuns, AreRuns}
use Rattle.costs.specs.declared.entry.Entry.{Entry}
use Rattle.sheets.specs.Sheets.{Sheet}
use Rattle.sheets.specs.declared.words.Kind.{Kind}
use Rattle.sheets.specs.declared.words.Kind.TheVariants.{Basic, Service, Composite}
use Rattle.order.specs.Order.{Complete}
use Rattle.charts.specs.Forming.{Outcome, stops}
use Rattle.charts.specs.Charts.{State, Leads}
use Rattle.charts.specs.Runs.{Run}
use Rattle.charts.specs.Evaluation.{basic_card, service_card}
use Rattle.charts.specs.declared.refusal.Refusal.{Refusal}
use Rattle.charts.specs.declared.refusal.Refusal.TheVariants.{Unnamed, Circle, TooLong}

module _ {M : Type 0} (ops : Amounts M) (meant : List ℕ → M) (sheet : Sheet) (lists : List (List (Entry M))) where
  -- there is a list for every input event, of 1 to 16 entries
  pub record Whole : Type 0 where
    pub all : length lists ≡ sheet.face.inputs
    pub sized : (e : ℕ) → e < sheet.face.inputs → Sized (slice_index_or lists e [])

  -- each run that an event starts is covered by an entry of its list
  abbrev pub Covers : Type 0
  Covers = (e : ℕ) → e < sheet.face.inputs → CoversRuns ops (slice_index_or lists e []) (Run ops meant sheet e)

  -- each entry of an event's list is a run's
  abbrev pub Attains : Type 0
  Attains = (e : ℕ) → e < sheet.face.inputs → AreRuns (slice_index_or lists e []) (Run ops meant sheet e)

module _ {M : Type 0} (ops : Amounts M) (meant : List ℕ → M) (gives : List (Entry M) → List (Entry M) → Type 0) (sheet : Sheet) where
  -- by the kind of block: what the plain function makes of a reducing function; a basic block's states are worked in the one complete order
  abbrev pub ExactBy : Kind → (List (Entry M) → List (Entry M)) → Outcome (Entry M) → Type 0
  ExactBy Basic f o = (ws : List ℕ) → Complete (State sheet) (Leads sheet) ws → o ≡ basic_card ops meant f sheet ws
  ExactBy Service f o = o ≡ service_card ops meant f sheet
  ExactBy Composite f o = ⊥

  -- where the reducer gives what a function says, the card is exactly what the plain function says
  abbrev pub Exact : Outcome (Entry M) → Type 0
  Exact o = (f : List (Entry M) → List (Entry M)) → Computes gives f → ExactBy sheet.face.kind f o

  -- and refusal 10 and its place are too
  abbrev pub ExactRefusal : Refusal → Type 0
  ExactRefusal (Unnamed at) = ⊥
  ExactRefusal (Circle state) = Unit {0}
  ExactRefusal (TooLong at) = Exact (stops at)

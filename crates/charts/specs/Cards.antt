-- How the lists of states and events, and the whole card, are formed with what the reducer gave. Assumes nothing.
use Rattle.std.specs.Prelude.{◌≡◌, ℕ, zero, suc, ◌+◌, cond, List, [], ◌∷◌, ◌++◌, ◌==◌}
use Rattle.std.specs.List.{flat_map}
use Rattle.costs.specs.Amounts.{Amounts}
use Rattle.costs.specs.Entries.{entry_ops}
use Rattle.costs.specs.Lists.{sums}
use Rattle.costs.specs.declared.entry.Entry.{Entry}
use Rattle.sheets.specs.Sheets.{Sheet}
use Rattle.sheets.specs.declared.words.Kind.{Kind}
use Rattle.sheets.specs.declared.words.Kind.TheVariants.{Basic, Service, Composite}
use Rattle.costs.specs.Forming.{Formation, Is, Reduces}
use Rattle.charts.specs.Forming.{Outcome, made, After}
use Rattle.charts.specs.Charts.{state_cost, frees, guarded, served_entries}

-- the table with the list of state s
abbrev pub put : {X : Type 0} → (ℕ → List X) → ℕ → List X → ℕ → List X
put T s xs t = cond (t == s) xs (T t)

-- no state has a list yet
abbrev pub no_lists : {X : Type 0} → ℕ → List X
no_lists t = []

module _ {M : Type 0} (ops : Amounts M) (gives : List (Entry M) → List (Entry M) → Type 0) where
  -- the list of a state of that cost whose event-free transitions lead to ds: the cost joined with their lists, put after
  -- one another, then reduced; without such a transition the cost alone
  abbrev pub StateList : (ℕ → List (Entry M)) → Entry M → List ℕ → Formation (Entry M) → Type 0
  StateList T cost [] = Is (cost ∷ [])
  StateList T cost (d ∷ ds) = Reduces gives (sums (entry_ops ops) (cost ∷ []) (flat_map T (d ∷ ds)))

  -- the list of an event that guards transitions to ds: their lists, put after one another, reduced; if it guards none, the zero entry
  abbrev pub EventList : (ℕ → List (Entry M)) → List ℕ → Formation (Entry M) → Type 0
  EventList T [] = Is ((entry_ops ops).zero ∷ [])
  EventList T (d ∷ ds) = Reduces gives (flat_map T (d ∷ ds))

-- the lists of n events from event e on, ascending, after those that are done; one too long is charged to 256 + event
abbrev pub Events : {X : Type 0} → (ℕ → Formation X → Type 0) → ℕ → ℕ → List (List X) → Outcome X → Type 0
Events P zero e done o = o ≡ made done
Events P (suc n) e done o = After (P e) (256 + e) (λ xs. Events P n (e + 1) (done ++ xs ∷ [])) o

module _ {M : Type 0} (ops : Amounts M) (meant : List ℕ → M) (gives : List (Entry M) → List (Entry M) → Type 0) (sheet : Sheet) where
  -- the lists of these states, in this order, over the lists of those before; one too long is charged to its state; then the rest from the table
  abbrev pub States : List ℕ → (ℕ → List (Entry M)) → ((ℕ → List (Entry M)) → Outcome (Entry M) → Type 0) → Outcome (Entry M) → Type 0
  States [] T Rest o = Rest T o
  States (s ∷ ss) T Rest o = After (StateList ops gives T (state_cost ops meant sheet s) (frees sheet s)) s (λ xs. States ss (put T s xs) Rest) o

  -- the list of event f, by the kind of block, over the table of its states
  abbrev pub EventBy : Kind → (ℕ → List (Entry M)) → ℕ → Formation (Entry M) → Type 0
  EventBy Basic T f = EventList ops gives T (guarded sheet f)
  EventBy Service T f = Reduces gives (served_entries meant f sheet.entries)
  EventBy Composite T f = λ o. ⊥

  -- the card of a basic block whose states are worked in the order ws: first its states, then its events, ascending
  abbrev pub BasicCard : List ℕ → Outcome (Entry M) → Type 0
  BasicCard ws o = States ws no_lists (λ T. Events (λ f. EventList ops gives T (guarded sheet f)) sheet.face.inputs 0 []) o

  -- the card of a service block: each event's entries, in sheet order, reduced
  abbrev pub ServiceCard : Outcome (Entry M) → Type 0
  ServiceCard o = Events (λ f. Reduces gives (served_entries meant f sheet.entries)) sheet.face.inputs 0 [] o

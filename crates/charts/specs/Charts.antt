-- What the sheet of a basic or a service block says: costs of states, where transitions lead, entries of events, and which numbers name something. Assumes nothing.
use Rattle.std.specs.Prelude.{ℕ, ◌<◌, Bool, true, false, cond, ◌&&◌, List, [], ◌∷◌, length, Some, None, Option, ◌==◌, slice_index_or}
use Rattle.std.specs.Coded.{Unit-prop, le_prop}
use Rattle.std.specs.List.{AllByRecursion}
use Rattle.costs.specs.Amounts.{Amounts}
use Rattle.costs.specs.Entries.{counts_of, no_counts, one_count, entry_ops}
use Rattle.costs.specs.Lists.{Among}
use Rattle.costs.specs.declared.counts.Counts.{Counts}
use Rattle.costs.specs.declared.entry.Entry.{Entry}
use Rattle.sheets.specs.Sheets.{Sheet, Served}
use Rattle.sheets.specs.declared.words.Action.{Action}
use Rattle.sheets.specs.declared.words.Transition.{Transition}

-- read past the end of a state's actions: nothing is done
abbrev pub no_action : Action
no_action = record { algorithm = None; output = None }

-- read past the end of the transitions
abbrev pub no_transition : Transition
no_transition = record { source = 0; destination = 0; event = None }

-- read past the end of the entries
abbrev pub no_entry : Served
no_entry = record { event = 0; amount = []; counts = [] }

-- one count at the action's output, if it names one
abbrev pub output_counts : Option ℕ → Counts
output_counts None = no_counts
output_counts (Some p) = one_count p

module _ {M : Type 0} (ops : Amounts M) (meant : List ℕ → M) (sheet : Sheet) where
  -- the amount of the action's algorithm; none costs nothing
  abbrev pub algorithm_amount : Option ℕ → M
  algorithm_amount None = ops.zero
  algorithm_amount (Some k) = meant (slice_index_or sheet.amounts k [])

  -- an action costs its algorithm's amount and one count at its output
  abbrev pub action_cost : Action → Entry M
  action_cost a = record { amount = algorithm_amount a.algorithm; counts = output_counts a.output }

  -- the sum of these actions
  abbrev pub actions_cost : List Action → Entry M
  actions_cost [] = (entry_ops ops).zero
  actions_cost (a ∷ more) = (entry_ops ops).plus (action_cost a) (actions_cost more)

  -- a state's cost is the sum of its actions
  unfoldable pub state_cost : ℕ → Entry M
  state_cost s = actions_cost (slice_index_or sheet.states s [])

-- a transition without an event
abbrev pub no_event : Option ℕ → Bool
no_event None = true
no_event (Some e) = false

-- a transition that event f guards
abbrev pub event_is : ℕ → Option ℕ → Bool
event_is f None = false
event_is f (Some e) = e == f

-- an event-free transition of state s
abbrev pub is_free : ℕ → Transition → Bool
is_free s t = no_event t.event && t.source == s

-- one that event f guards, from any state
abbrev pub is_guarded : ℕ → Transition → Bool
is_guarded f t = event_is f t.event

-- the destinations of the transitions that pass the test, in sheet order
abbrev pub dests : (Transition → Bool) → List Transition → List ℕ
dests p [] = []
dests p (t ∷ ts) = cond (p t) (t.destination ∷ dests p ts) (dests p ts)

-- the destinations of the event-free transitions of state s
abbrev pub frees : Sheet → ℕ → List ℕ
frees sheet s = dests (is_free s) sheet.transitions

-- the destinations of the transitions that event f guards
abbrev pub guarded : Sheet → ℕ → List ℕ
guarded sheet f = dests (is_guarded f) sheet.transitions

-- a service entry as an entry: the amount that its bytes stand for, and its counts
abbrev pub served_entry : {M : Type 0} → (List ℕ → M) → Served → Entry M
served_entry meant x = record { amount = meant x.amount; counts = counts_of x.counts }

-- the entries of event f, in sheet order
abbrev pub served_entries : {M : Type 0} → (List ℕ → M) → ℕ → List Served → List (Entry M)
served_entries meant f [] = []
served_entries meant f (x ∷ xs) = cond (x.event == f) (served_entry meant x ∷ served_entries meant f xs) (served_entries meant f xs)

-- the states are the nodes of a graph
abbrev pub State : Sheet → ℕ → Type 0
State sheet s = s < length sheet.states

-- an event-free transition leads from s to d
abbrev pub Leads : Sheet → ℕ → ℕ → Type 0
Leads sheet s d = Among d (frees sheet s)

-- a number, if there is one, is below n
abbrev pub Within : ℕ → Option ℕ → Type 0
Within n None = Unit {0}
Within n (Some k) = k < n

-- the action's algorithm and output are there
pub record NamedAction (sheet : Sheet) (a : Action) : Type 0 where
  pub algorithm : Within (length sheet.amounts) a.algorithm
  pub output : Within sheet.face.outputs a.output

-- the transition's states and event are there
pub record NamedTransition (sheet : Sheet) (t : Transition) : Type 0 where
  pub source : State sheet t.source
  pub destination : State sheet t.destination
  pub event : Within sheet.face.inputs t.event

-- the entry's event is there
abbrev pub NamedEntry : Sheet → Served → Type 0
NamedEntry sheet x = x.event < sheet.face.inputs

-- every number of a basic or a service sheet names something
pub record Named (sheet : Sheet) : Type 0 where
  pub states : AllByRecursion (AllByRecursion (NamedAction sheet)) sheet.states
  pub transitions : AllByRecursion (NamedTransition sheet) sheet.transitions
  pub entries : AllByRecursion (NamedEntry sheet) sheet.entries

-- the fact has one proof at most, so that a struct may keep what is made of it
pub Within-prop : (n : ℕ) (o : Option ℕ) → IsProp (Within n o)
Within-prop n None = Unit-prop
Within-prop n (Some k) = le_prop

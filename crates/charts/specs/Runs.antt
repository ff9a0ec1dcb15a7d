-- What a block does on an event, and what it costs: the runs of basic and service blocks, with unlimited counts. Assumes nothing.
use Rattle.std.specs.Prelude.{◌≡◌, ℕ, List, [], ◌∷◌, Some, None, Option, slice_index, slice_index_or}
use Rattle.costs.specs.Amounts.{Amounts}
use Rattle.costs.specs.Lists.{Among}
use Rattle.costs.specs.Runs.{Sent, none_sent, once_sent, both_sent, SameCount}
use Rattle.sheets.specs.Sheets.{Sheet, Served}
use Rattle.sheets.specs.declared.words.Action.{Action}
use Rattle.sheets.specs.declared.words.Transition.{Transition}
use Rattle.sheets.specs.declared.words.Kind.{Kind}
use Rattle.sheets.specs.declared.words.Kind.TheVariants.{Basic, Service, Composite}
use Rattle.charts.specs.Charts.{algorithm_amount}

-- what an action sends: its output once, if it names one
abbrev pub sends : Option ℕ → Sent
sends None = none_sent
sends (Some p) = once_sent p

-- what the actions send, one after another
abbrev pub all_send : List Action → Sent
all_send [] = none_sent
all_send (a ∷ more) = both_sent (sends a.output) (all_send more)

module _ {M : Type 0} (ops : Amounts M) (meant : List ℕ → M) (sheet : Sheet) where
  -- what the actions cost, one after another
  abbrev pub all_cost : List Action → M
  all_cost [] = ops.zero
  all_cost (a ∷ more) = ops.plus (algorithm_amount ops meant sheet a.algorithm) (all_cost more)

  -- what state s costs when it is entered
  abbrev pub entered_cost : ℕ → M
  entered_cost s = all_cost (slice_index_or sheet.states s [])

-- what state s sends when it is entered
abbrev pub entered_sends : Sheet → ℕ → Sent
entered_sends sheet s = all_send (slice_index_or sheet.states s [])

-- a run from state s on: it enters s and performs its actions, and stops there or follows an event-free transition of s
pub data StateRun {M : Type 0} (ops : Amounts M) (meant : List ℕ → M) (sheet : Sheet) : ℕ → M → Sent → Type 0 where
  stop : (s : ℕ) → StateRun ops meant sheet s (entered_cost ops meant sheet s) (entered_sends sheet s)
  go : (s : ℕ) (t : Transition) (a : M) (ns : Sent) → Among t sheet.transitions → t.event ≡ None → t.source ≡ s → StateRun ops meant sheet t.destination a ns
      → StateRun ops meant sheet s (ops.plus (entered_cost ops meant sheet s) a) (both_sent (entered_sends sheet s) ns)

-- a run of a basic block on event f: it ignores the event at zero cost, or takes a transition that f guards, from any state, and goes on from there
pub data BasicRun {M : Type 0} (ops : Amounts M) (meant : List ℕ → M) (sheet : Sheet) (f : ℕ) : M → Sent → Type 0 where
  ignore : BasicRun ops meant sheet f ops.zero none_sent
  follow : (t : Transition) (a : M) (ns : Sent) → Among t sheet.transitions → t.event ≡ Some f → StateRun ops meant sheet t.destination a ns → BasicRun ops meant sheet f a ns

-- a run of a service block on event f has the amount and counts of one of the event's entries; a count of 255 allows any number from 255 up
pub data ServiceRun {M : Type 0} (meant : List ℕ → M) (sheet : Sheet) (f : ℕ) : M → Sent → Type 0 where
  serve : (x : Served) (ns : Sent) → Among x sheet.entries → x.event ≡ f → ((o : ℕ) → SameCount (slice_index x.counts o) (ns o)) → ServiceRun meant sheet f (meant x.amount) ns

-- a run of a block on event f, by its kind; a composite's are not told by its sheet alone
abbrev pub RunBy : {M : Type 0} → Amounts M → (List ℕ → M) → Sheet → Kind → ℕ → M → Sent → Type 0
RunBy ops meant sheet Basic f = BasicRun ops meant sheet f
RunBy ops meant sheet Service f = ServiceRun meant sheet f
RunBy ops meant sheet Composite f = λ a ns. ⊥

abbrev pub Run : {M : Type 0} → Amounts M → (List ℕ → M) → Sheet → ℕ → M → Sent → Type 0
Run ops meant sheet f = RunBy ops meant sheet sheet.face.kind f

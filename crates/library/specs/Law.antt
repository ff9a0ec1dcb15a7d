-- The law of a library, in the words of runs and of the book. Assumes nothing.
use Rattle.std.specs.Prelude.{◌≡◌, ℕ, ◌<◌, true, ◌↔◌, List}
use Rattle.costs.specs.Lists.{Selects}
use Rattle.costs.specs.Runs.{CoversRuns, AreRuns}
use Rattle.costs.specs.declared.entry.Entry.{Entry}
use Rattle.library.specs.Books.{Rules, Book, size, at, inputs_of, Stale, Current}
use Rattle.library.specs.Checks.{Lent}
use Rattle.library.specs.Memory.{Stands}
use Rattle.library.specs.Runs.{Run}
use Rattle.library.specs.Steps.{Ask, Reply, Step}
use Rattle.library.specs.Tables.{row_at, kept_list, sizes_of}
use Rattle.library.specs.declared.row.Row.{Row}

-- the law, of tables and a book
pub record Sound {M : Type 0} (rules : Rules M) (b : Book M) (index : List Row) (cards : List (Entry M)) : Type 0 where
  -- the tables hold the book's cards
  pub holds : (n e : ℕ) → n < size b → kept_list index cards n e ≡ (at b n).card e
  -- every current card covers every finite run that an event of its block starts
  pub covers : (n e : ℕ) → Current b n → e < inputs_of b n → CoversRuns rules.ops (kept_list index cards n e) (Run rules.ops rules.meant b n e)
  -- a card is marked out of date exactly when it is not current by the book
  pub marked : (n : ℕ) → n < size b → ((row_at index n).old ≡ true) ↔ Stale b n
  -- where the reducer selects, each entry of a current card is the amount and counts of a run that its event starts
  pub attained : Selects rules.gives → (n e : ℕ) → Current b n → e < inputs_of b n → AreRuns (kept_list index cards n e) (Run rules.ops rules.meant b n e)

-- for every book that the tables stand for there is a next one by the step of this call with this answer; the tables then stand for it and keep the law
abbrev pub GoesOn : {M : Type 0} → Rules M → Ask → Lent → Reply M → List ℕ → List Row → List (Entry M) → List ℕ → List Row → List (Entry M) → Type 0
GoesOn {M} rules ask lent reply shelf index cards shelf' index' cards' =
    (b : Book M) → Stands rules b shelf index cards → (d : Book M) × (Step rules (sizes_of shelf index cards) b ask lent reply d × (Stands rules d shelf' index' cards' × Sound rules d index' cards'))

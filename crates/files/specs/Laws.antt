-- The measures and reducers of the programs, and the law of a library by a reducer that selects, without a premise. Assumes nothing.
use Rattle.std.specs.Prelude.{◌≡◌, ℕ, ◌<◌, true, ◌↔◌, List, decimal}
use Rattle.costs.specs.Entries.{entry_ops}
use Rattle.costs.specs.Lists.{By}
use Rattle.costs.specs.Measures.{ticks_ops, ticks_meant, memory_ops, memory_meant}
use Rattle.costs.specs.Reducers.{kept, merged_alone}
use Rattle.costs.specs.Runs.{CoversRuns, AreRuns}
use Rattle.costs.specs.declared.entry.Entry.{Entry}
use Rattle.costs.specs.declared.memory.Memory.{Memory}
use Rattle.costs.specs.declared.ticks.Ticks.{Ticks}
use Rattle.library.specs.Books.{Rules, rules, Book, size, inputs_of, Stale, Current}
use Rattle.library.specs.Runs.{Run}
use Rattle.library.specs.Tables.{row_at, kept_list}
use Rattle.library.specs.declared.row.Row.{Row}

-- ticks, in four bytes: each reducing gives exactly what keep, or merge, leaves
abbrev pub ticks_keep : Rules Ticks
ticks_keep = rules ticks_ops 4 ticks_meant (By (kept (entry_ops ticks_ops)))

abbrev pub ticks_merge : Rules Ticks
ticks_merge = rules ticks_ops 4 ticks_meant (By (merged_alone (entry_ops ticks_ops)))

-- memory, in two bytes
abbrev pub memory_keep : Rules Memory
memory_keep = rules memory_ops 2 memory_meant (By (kept (entry_ops memory_ops)))

abbrev pub memory_merge : Rules Memory
memory_merge = rules memory_ops 2 memory_meant (By (merged_alone (entry_ops memory_ops)))

-- an amount as it is spelt
abbrev pub ticks_text : Ticks → List ℕ
ticks_text t = decimal t.value

abbrev pub memory_text : Memory → List ℕ
memory_text m = decimal m.value

-- the law of every history, for a book and tables, where the reducer selects
pub record Lawful {M : Type 0} (by : Rules M) (b : Book M) (index : List Row) (cards : List (Entry M)) : Type 0 where
  -- every current card covers every finite run that an event of its block starts
  pub covers : (n e : ℕ) → Current b n → e < inputs_of b n → CoversRuns by.ops (kept_list index cards n e) (Run by.ops by.meant b n e)
  -- a card is marked out of date exactly when it is not current by the book
  pub marked : (n : ℕ) → n < size b → ((row_at index n).old ≡ true) ↔ Stale b n
  -- each entry of a current card is the amount and counts of a run that its event starts
  pub attained : (n e : ℕ) → Current b n → e < inputs_of b n → AreRuns (kept_list index cards n e) (Run by.ops by.meant b n e)

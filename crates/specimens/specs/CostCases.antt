-- The worked cases of measures and reducers. Amounts are in ticks but where memory, in bytes, is named. Assumes nothing.
use Rattle.std.specs.Prelude.{◌≡◌, ℕ, List, [], ◌∷◌}
use Rattle.costs.specs.Entries.{counts_of, entry_ops}
use Rattle.costs.specs.Measures.{ticks, over, ticks_ops, memory, memory_ops}
use Rattle.costs.specs.Reducers.{kept, merged_alone}
use Rattle.costs.specs.declared.entry.Entry.{Entry}
use Rattle.costs.specs.declared.ticks.Ticks.{Ticks}

-- an entry as it is written: (amount; counts), with counts of zero past those that are written
abbrev pub entry : ℕ → List ℕ → Entry Ticks
entry amount counts = record { amount = ticks amount; counts = counts_of counts }

-- (5; 1), (5; 1), (4; 1), (3; 2)
abbrev pub four : List (Entry Ticks)
four = entry 5 (1 ∷ []) ∷ entry 5 (1 ∷ []) ∷ entry 4 (1 ∷ []) ∷ entry 3 (2 ∷ []) ∷ []

pub record CostCases : Type 0 where
  -- 4,294,967,290 ticks plus 4 is exact, and plus 5 is over
  pub ticks_exact : ticks_ops.plus (ticks 4294967290) (ticks 4) ≡ ticks 4294967294
  pub ticks_over : ticks_ops.plus (ticks 4294967290) (ticks 5) ≡ over
  -- 700 bytes of memory plus 300 is 700
  pub memory_greater : memory_ops.plus (memory 700) (memory 300) ≡ memory 700
  -- keep of (5; 1), (5; 1), (4; 1), (3; 2) is (5; 1), (3; 2)
  pub keep_four : kept (entry_ops ticks_ops) four ≡ entry 5 (1 ∷ []) ∷ entry 3 (2 ∷ []) ∷ []
  -- merge of these is (5; 2)
  pub merge_four : merged_alone (entry_ops ticks_ops) four ≡ entry 5 (2 ∷ []) ∷ []

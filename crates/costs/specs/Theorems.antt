-- What is shown of entries, runs and reducers, for every measure. Assumes nothing.
use Rattle.std.specs.Prelude.{◌≡◌, ℕ, ◌<◌, true, List}
use Rattle.costs.specs.Amounts.{Amounts, Lawful}
use Rattle.costs.specs.Entries.{amount_alone, entry_ops, one_sent}
use Rattle.costs.specs.Lists.{Among, merged, Sound, Selects, Functional, By}
use Rattle.costs.specs.Reducers.{kept, merged_alone}
use Rattle.costs.specs.Runs.{Sent, none_sent, once_sent, both_sent, CoversRun, IsRun}
use Rattle.costs.specs.declared.entry.Entry.{Entry}

module _ {M : Type 0} (ops : Amounts M) where
  -- entries and runs
  pub record RunLaws : Type 0 where
    -- every entry covers the run that costs and sends nothing
    pub covers_nothing : (e : Entry M) → CoversRun ops e ops.zero none_sent
    -- what covers a covering entry covers the run
    pub covers_on : (f e : Entry M) (a : M) (ns : Sent) → (entry_ops ops).covers f e ≡ true → CoversRun ops e a ns → CoversRun ops f a ns
    -- the sum of covering entries covers the two runs together
    pub covers_both : (e f : Entry M) (a b : M) (ns ms : Sent) → CoversRun ops e a ns → CoversRun ops f b ms → CoversRun ops ((entry_ops ops).plus e f) (ops.plus a b) (both_sent ns ms)
    -- an entry covers the runs whose it is
    pub is_covered : (e : Entry M) (a : M) (ns : Sent) → IsRun e a ns → CoversRun ops e a ns
    -- the zero entry is that of the run that costs and sends nothing, and an amount alone that of one that sends nothing
    pub is_alone : (a : M) → IsRun (amount_alone a) a none_sent
    -- one count at an output is a run that sends it once
    pub is_once : (p : ℕ) → p < 8 → IsRun (one_sent ops p) ops.zero (once_sent p)
    -- the sum of two entries is that of their runs together
    pub is_both : (e f : Entry M) (a b : M) (ns ms : Sent) → IsRun e a ns → IsRun f b ms → IsRun ((entry_ops ops).plus e f) (ops.plus a b) (both_sent ns ms)

  -- keep and merge
  pub record ReducerLaws : Type 0 where
    -- the merged entry covers each given one, and every entry that covers each covers it
    pub merged_covers : (xs : List (Entry M)) (x : Entry M) → Among x xs → (entry_ops ops).covers (merged (entry_ops ops) xs) x ≡ true
    pub merged_least : (c : Entry M) (xs : List (Entry M)) → ((x : Entry M) → Among x xs → (entry_ops ops).covers c x ≡ true) → (entry_ops ops).covers c (merged (entry_ops ops) xs) ≡ true
    -- what keep and merge give is what a reducer may
    pub keep_sound : Sound ops (By (kept (entry_ops ops)))
    pub merge_sound : Sound ops (By (merged_alone (entry_ops ops)))
    -- each gives one result
    pub keep_functional : Functional (By (kept (entry_ops ops)))
    pub merge_functional : Functional (By (merged_alone (entry_ops ops)))
    -- what keep leaves was given, and no different given entry covers it
    pub keep_selects : Selects (By (kept (entry_ops ops)))
    pub keep_unbeaten : (xs : List (Entry M)) (x y : Entry M) → Among x xs → Among y (kept (entry_ops ops) xs) → (entry_ops ops).covers x y ≡ true → x ≡ y
    -- keep leaves every entry that no different one covers
    pub keep_whole : (xs : List (Entry M)) (x : Entry M) → Among x xs → ((y : Entry M) → Among y xs → (entry_ops ops).covers y x ≡ true → y ≡ x) → Among x (kept (entry_ops ops) xs)

  -- for every measure: entries keep the laws of a measure, entries and runs theirs, and so do keep and merge
  pub record CostLaws : Type 0 where
    pub entries : Lawful (entry_ops ops)
    pub runs : RunLaws
    pub reducers : ReducerLaws

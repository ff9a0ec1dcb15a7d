-- When an entry covers a run, and when it is a run's. A run has an amount and unlimited whole counts. Assumes nothing.
use Rattle.std.specs.Prelude.{◌≡◌, ℕ, ◌+◌, ◌<◌, ◌≤◌, true, cond, ◌⊎◌, List, ◌==◌}
use Rattle.costs.specs.Amounts.{Amounts}
use Rattle.costs.specs.Entries.{count}
use Rattle.costs.specs.Lists.{Among}
use Rattle.costs.specs.declared.entry.Entry.{Entry}

-- how often a run sends each output: an unlimited whole number
abbrev pub Sent : Type 0
Sent = ℕ → ℕ

-- a run that sends nothing
abbrev pub none_sent : Sent
none_sent o = 0

-- a run that sends output p once
abbrev pub once_sent : ℕ → Sent
once_sent p o = cond (o == p) 1 0

-- two runs after one another
abbrev pub both_sent : Sent → Sent → Sent
both_sent ns ms o = ns o + ms o

-- an entry's count n is not below a run's count k if it is at least as great or is 255
abbrev pub NotBelow : ℕ → ℕ → Type 0
NotBelow n k = (k ≤ n) ⊎ (n ≡ 255)

-- an entry's count n is a run's count k if they are equal, or n is 255 and k is 255 or more
abbrev pub SameCount : ℕ → ℕ → Type 0
SameCount n k = (n ≡ k) ⊎ ((n ≡ 255) × (255 ≤ k))

-- the entry covers a run of amount a that sends ns: its amount covers a, and no count is below
pub record CoversRun {M : Type 0} (ops : Amounts M) (e : Entry M) (a : M) (ns : Sent) : Type 0 where
  pub amount : ops.covers e.amount a ≡ true
  pub counts : (o : ℕ) → o < 8 → NotBelow (count e o) (ns o)

-- the entry is that of a run of amount a that sends ns, 255 standing for 255 or more
pub record IsRun {M : Type 0} (e : Entry M) (a : M) (ns : Sent) : Type 0 where
  pub amount : e.amount ≡ a
  pub counts : (o : ℕ) → o < 8 → SameCount (count e o) (ns o)

module _ {M : Type 0} where
  -- some entry of the list covers the run
  pub record CoveredRun (ops : Amounts M) (es : List (Entry M)) (a : M) (ns : Sent) : Type 0 where
    pub entry : Entry M
    pub listed : Among entry es
    pub covers : CoversRun ops entry a ns

  -- every run is covered by some entry of the list
  abbrev pub CoversRuns : Amounts M → List (Entry M) → (M → Sent → Type 0) → Type 0
  CoversRuns ops es Run = (a : M) (ns : Sent) → Run a ns → CoveredRun ops es a ns

  -- the entry is that of some run
  pub record RunOf (Run : M → Sent → Type 0) (e : Entry M) : Type 0 where
    pub amount : M
    pub sent : Sent
    pub run : Run amount sent
    pub is : IsRun e amount sent

  -- every entry of the list is that of some run
  abbrev pub AreRuns : List (Entry M) → (M → Sent → Type 0) → Type 0
  AreRuns es Run = (e : Entry M) → Among e es → RunOf Run e

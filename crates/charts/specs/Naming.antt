-- What the check of names answers: accepted where every number names something, else the first field that has one that does not. Assumes nothing.
use Rattle.std.specs.Prelude.{◌≡◌, ℕ, ◌+◌, ◌<◌, Bool, true, false, List, length, take, Some, Ok, Err, Result}
use Rattle.std.specs.List.{slice_get, AllByRecursion}
use Rattle.sheets.specs.Sheets.{Sheet, sheet_of, offsets_of, count_of}
use Rattle.sheets.specs.declared.opened.Checked.{Checked}
use Rattle.sheets.specs.declared.words.Item.{Item}
use Rattle.sheets.specs.declared.words.Item.TheVariants.{State, Transition, Entry}
use Rattle.charts.specs.Charts.{NamedAction, NamedTransition, NamedEntry, Named}
use Rattle.charts.specs.Refusals.{number, level, place}
use Rattle.charts.specs.declared.refusal.Refusal.{Refusal}

-- what a checked sheet says
abbrev pub says : Checked → Sheet
says c = sheet_of c.width.bytes c.bytes.now

-- k is the first element of which P does not hold
pub record First {X : Type 0} (P : X → Type 0) (xs : List X) (k : ℕ) : Type 0 where
  pub within : k < length xs
  pub before : AllByRecursion P (take k xs)
  pub fails : AllByRecursion P (take (k + 1) xs) → ⊥

-- the field of the k-th item stands at offset p, in bytes
abbrev pub OffsetOf : Checked → Item → ℕ → ℕ → Type 0
OffsetOf c item k p = slice_get (offsets_of item c.bytes.now) k ≡ Some p

-- p is the offset of the first field, in sheet order, that has a number that names nothing: states come before transitions, which come before entries
pub data UnnamedAt (c : Checked) (p : ℕ) : Type 0 where
  in_state : (k : ℕ) → First (AllByRecursion (NamedAction (says c))) (says c).states k → OffsetOf c State k p → UnnamedAt c p
  in_transition : (k : ℕ) → AllByRecursion (AllByRecursion (NamedAction (says c))) (says c).states → First (NamedTransition (says c)) (says c).transitions k → OffsetOf c Transition k p → UnnamedAt c p
  in_entry : (k : ℕ) → AllByRecursion (AllByRecursion (NamedAction (says c))) (says c).states → AllByRecursion (NamedTransition (says c)) (says c).transitions → First (NamedEntry (says c)) (says c).entries k → OffsetOf c Entry k p → UnnamedAt c p

-- refusal 5, level 1, at the first such field; accepted in every other case
abbrev pub Naming : Checked → Result Unit Refusal → Type 0
Naming c (Ok u) = Named (says c)
Naming c (Err e) = (number e ≡ 5) × (level e ≡ 1) × UnnamedAt c (place e)

-- of n things each passed the test, by its answers
pub record AllPass (answers : ℕ → Bool → Type 0) (n : ℕ) : Type 0 where
  pub each : (k : ℕ) → k < n → answers k true

-- the k-th of n things is the first that did not pass the test
pub record FailsFirst (answers : ℕ → Bool → Type 0) (n k : ℕ) : Type 0 where
  pub within : k < n
  pub before : AllPass answers k
  pub fails : answers k false

-- refusal 5, level 1, at the field of the first of an item that did not pass the test
pub record FailsAt (answers : ℕ → Bool → Type 0) (c : Checked) (item : Item) (e : Refusal) : Type 0 where
  pub five : number e ≡ 5
  pub one : level e ≡ 1
  pub k : ℕ
  pub first : FailsFirst answers (count_of item (says c)) k
  pub at : OffsetOf c item k (place e)

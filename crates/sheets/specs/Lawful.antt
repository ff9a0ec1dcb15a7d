-- The grammar of a sheet as a relation, and what checks 1 and 2 answer in its terms. Assumes nothing.
use Rattle.std.specs.Prelude.{◌≡◌, ℕ, ◌+◌, ◌*◌, ◌<◌, ◌≤◌, List, [], ◌∷◌, ◌++◌, length, Ok, Err, Result}
use Rattle.std.specs.List.{AllByRecursion}
use Rattle.sheets.specs.Frames.{Raw, fields, span}
use Rattle.sheets.specs.Grammar.{byte, count, entries}
use Rattle.sheets.specs.Refusals.{number, level, place}
use Rattle.sheets.specs.declared.refusal.Refusal.{Refusal}
use Rattle.sheets.specs.declared.refusal.Refusal.TheVariants.{Grammar}

-- the field is an interface: a kind from 1 to 3, 1 to 8 inputs, up to 8 outputs
pub record Heads (f : Raw) : Type 0 where
  pub tag : f.tag ≡ 1
  pub three : length f.content ≡ 3
  pub some_kind : 1 ≤ byte f 0
  pub few_kinds : byte f 0 ≤ 3
  pub some_inputs : 1 ≤ byte f 1
  pub few_inputs : byte f 1 ≤ 8
  pub few_outputs : byte f 2 ≤ 8

-- which tags a kind of block has: 1 basic, 2 service, 3 composite
pub data Belongs : ℕ → ℕ → Type 0 where
  amounts : Belongs 1 2
  state : Belongs 1 3
  transition : Belongs 1 4
  entry : Belongs 2 5
  instance : Belongs 3 6
  connection : Belongs 3 7

-- how long a field of a tag may be, in bytes, where an amount takes w and the block has o outputs
pub data Fits (w o : ℕ) : ℕ → ℕ → Type 0 where
  amounts : (n : ℕ) → n ≤ 16 → Fits w o 2 (n * w)
  state : (n : ℕ) → n ≤ 4 → Fits w o 3 (n * 2)
  transition : Fits w o 4 3
  entry : Fits w o 5 (1 + w + o)
  instance : Fits w o 6 1
  connection : Fits w o 7 4

-- a block whose kind has this tag needs a field of it
pub data Needed : ℕ → Type 0 where
  amounts : Needed 2
  state : Needed 3
  instance : Needed 6

-- how many fields of a tag there may be
pub data Most : ℕ → ℕ → Type 0 where
  amounts : Most 2 1
  states : Most 3 32
  transitions : Most 4 64
  instances : Most 6 16
  connections : Most 7 64

-- A field may follow the interface and the fields after it: its tag is the kind's, its length is of the table, no higher tag came before it,
-- no needed lower tag is missing, and not too many of its tag came before, nor of its event if that is an input.
pub record Follows (w : ℕ) (head : Raw) (before : List Raw) (f : Raw) : Type 0 where
  pub kind : Belongs (byte head 0) f.tag
  pub size : Fits w (byte head 2) f.tag (length f.content)
  pub ascending : AllByRecursion (λ g. g.tag ≤ f.tag) before
  pub lower : (t : ℕ) → Needed t → Belongs (byte head 0) t → t < f.tag → 1 ≤ count t before
  pub room : (n : ℕ) → Most f.tag n → count f.tag before < n
  pub event_room : f.tag ≡ 5 → byte f 0 < byte head 1 → entries (byte f 0) before < 16

-- each of the fields after the interface may follow those before it
pub data Accepts (w : ℕ) (head : Raw) : List Raw → Type 0 where
  nothing : Accepts w head []
  one_more : (fs : List Raw) (f : Raw) → Accepts w head fs → Follows w head fs f → Accepts w head (fs ++ f ∷ [])

-- nothing more is needed: each needed tag of the kind is there, and each input of a service block has an entry
pub record Whole (head : Raw) (fs : List Raw) : Type 0 where
  pub needed : (t : ℕ) → Needed t → Belongs (byte head 0) t → 1 ≤ count t fs
  pub each : byte head 0 ≡ 2 → (e : ℕ) → e < byte head 1 → 1 ≤ entries e fs

-- the fields make a sheet of this width
pub record Lawful (w : ℕ) (all : List Raw) : Type 0 where
  pub head : Raw
  pub fs : List Raw
  pub is : all ≡ head ∷ fs
  pub heads : Heads head
  pub accepted : Accepts w head fs
  pub whole : Whole head fs

-- p is where they cease to: at the first field that cannot follow, or at the end
pub data Faulty (w : ℕ) (all : List Raw) (p : ℕ) : Type 0 where
  empty : all ≡ [] → p ≡ 0 → Faulty w all p
  no_head : (head : Raw) (fs : List Raw) → all ≡ head ∷ fs → (Heads head → ⊥) → p ≡ 0 → Faulty w all p
  cannot_follow : (head : Raw) (a : List Raw) (f : Raw) (b : List Raw) → all ≡ head ∷ (a ++ f ∷ b) → Heads head → Accepts w head a → (Follows w head a f → ⊥) → p ≡ span (head ∷ a) → Faulty w all p
  more_needed : (head : Raw) (fs : List Raw) → all ≡ head ∷ fs → Heads head → Accepts w head fs → (Whole head fs → ⊥) → p ≡ span all → Faulty w all p

-- what an answer of check 2 says
abbrev pub Answered : ℕ → List ℕ → Result Unit Refusal → Type 0
Answered w bs (Ok u) = Lawful w (fields bs)
Answered w bs (Err e) = (number e ≡ 2) × (level e ≡ 1) × Faulty w (fields bs) (place e)

-- check 2 answers what is so, accepts whatever is lawful, and names every fault's place
pub record Grammatical (w : ℕ) (bs : List ℕ) (r : Result Unit Refusal) : Type 0 where
  pub sound : Answered w bs r
  pub accepts : Lawful w (fields bs) → r ≡ Ok tt
  pub refuses : (p : ℕ) → Faulty w (fields bs) p → r ≡ Err (Grammar p)

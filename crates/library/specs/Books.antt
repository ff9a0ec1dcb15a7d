-- The book of what was asked and accepted: the blocks, what each stands on, and which cards are out of date. Assumes nothing.
-- Glossary. A block is numbered by its place in the book, from 0. It stands on the blocks that its instances name; within a block
-- are itself and all beneath it, several steps down. The clock is the number of changes so far and one more.
use Rattle.std.specs.Prelude.{ℕ, ◌+◌, ◌<◌, List, [], ◌∷◌, ◌++◌, length, take, slice_index_or, slice_set}
use Rattle.costs.specs.Amounts.{Amounts}
use Rattle.costs.specs.Lists.{Among}
use Rattle.costs.specs.declared.entry.Entry.{Entry}
use Rattle.networks.specs.declared.beneath.Face.{Face}
use Rattle.sheets.specs.Form.{with_amount}
use Rattle.sheets.specs.Sheets.{Sheet}
use Rattle.sheets.specs.declared.words.Kind.TheVariants.{Basic}

-- a measure and a reducer, which serve a library throughout
pub record Rules (M : Type 0) : Type 1 where
  -- zero, sum, covering and the higher of two amounts
  pub ops : Amounts M
  -- how many bytes an amount takes
  pub wide : ℕ
  -- the amount that so many bytes stand for
  pub meant : List ℕ → M
  -- what the reducer may give for a list
  pub gives : List (Entry M) → List (Entry M) → Type 0

-- the rules of a measure and a reducer
abbrev pub rules : {M : Type 0} → Amounts M → ℕ → (List ℕ → M) → (List (Entry M) → List (Entry M) → Type 0) → Rules M
rules ops wide meant gives = record { ops = ops; wide = wide; meant = meant; gives = gives }

-- a block of the book
pub record Block (M : Type 0) : Type 0 where
  -- what its sheet says now, and how many bytes the sheet takes
  pub sheet : Sheet
  pub bytes : ℕ
  -- the list of each event on its card, as last worked
  pub card : ℕ → List (Entry M)
  -- when its card was last worked, and when it was last retimed (0: never)
  pub worked : ℕ
  pub retimed : ℕ

-- the blocks in the order in which they were entered, and the clock
pub record Book (M : Type 0) : Type 0 where
  pub blocks : List (Block M)
  pub clock : ℕ

-- a sheet that says nothing
abbrev pub no_sheet : Sheet
no_sheet =
    record {
      face = record { kind = Basic; inputs = 0; outputs = 0 };
      amounts = [];
      states = [];
      transitions = [];
      entries = [];
      instances = [];
      connections = [];
    }

-- what is read past the last block: a sheet that says nothing, and a card without a list
abbrev pub no_block : {M : Type 0} → Block M
no_block = record { sheet = no_sheet; bytes = 0; card = λ e. []; worked = 0; retimed = 0 }

-- how many blocks the book has
abbrev pub size : {M : Type 0} → Book M → ℕ
size b = length b.blocks

-- block n
abbrev pub at : {M : Type 0} → Book M → ℕ → Block M
at b n = slice_index_or b.blocks n no_block

-- how many input events block n has; a number that is no block has none
abbrev pub inputs_of : {M : Type 0} → Book M → ℕ → ℕ
inputs_of b n = (at b n).sheet.face.inputs

-- the interface of block n
abbrev pub face_of : {M : Type 0} → Book M → ℕ → Face
face_of b n = record { inputs = (at b n).sheet.face.inputs; outputs = (at b n).sheet.face.outputs }

-- how many bytes these blocks' sheets take together
abbrev pub bytes_of : {M : Type 0} → List (Block M) → ℕ
bytes_of [] = 0
bytes_of (x ∷ xs) = x.bytes + bytes_of xs

-- how many bytes all sheets take
abbrev pub used : {M : Type 0} → Book M → ℕ
used b = bytes_of b.blocks

-- the sheets stand end to end: where that of block n begins
abbrev pub start_of : {M : Type 0} → Book M → ℕ → ℕ
start_of b n = bytes_of (take n b.blocks)

-- the block that instance i of a sheet names; 255, which is no block, where there is no such instance
abbrev pub instance_of : Sheet → ℕ → ℕ
instance_of s i = slice_index_or s.instances i 255

-- the book at `new`
abbrev pub empty : {M : Type 0} → Book M
empty = record { blocks = []; clock = 1 }

-- enter adds the next block with its sheet and its card, worked now
abbrev pub with_block : {M : Type 0} → Book M → Sheet → ℕ → (ℕ → List (Entry M)) → Book M
with_block b s bytes card = record { blocks = b.blocks ++ (record { sheet = s; bytes = bytes; card = card; worked = b.clock; retimed = 0 } ∷ []); clock = b.clock + 1 }

-- a block whose algorithm k has the amount of these bytes, retimed at a time
abbrev pub retimed_block : {M : Type 0} → Block M → ℕ → List ℕ → ℕ → Block M
retimed_block x k new time = record { sheet = with_amount x.sheet k new; bytes = x.bytes; card = x.card; worked = x.worked; retimed = time }

-- retime replaces the amount of algorithm k in block n's sheet, the block retimed now
abbrev pub with_retime : {M : Type 0} → Book M → ℕ → ℕ → List ℕ → Book M
with_retime b n k new = record { blocks = slice_set b.blocks n (retimed_block (at b n) k new b.clock); clock = b.clock + 1 }

-- a block with another card, worked at a time
abbrev pub worked_block : {M : Type 0} → Block M → (ℕ → List (Entry M)) → ℕ → Block M
worked_block x card time = record { sheet = x.sheet; bytes = x.bytes; card = card; worked = time; retimed = x.retimed }

-- rework notes block n's card as worked now
abbrev pub with_work : {M : Type 0} → Book M → ℕ → (ℕ → List (Entry M)) → Book M
with_work b n card = record { blocks = slice_set b.blocks n (worked_block (at b n) card b.clock); clock = b.clock + 1 }

-- block n stands on block k: one of its instances names it
abbrev pub StandsOn : {M : Type 0} → Book M → ℕ → ℕ → Type 0
StandsOn b n k = Among k (at b n).sheet.instances

-- m is n, or is beneath it, at any number of steps
pub data Within {M : Type 0} (b : Book M) : ℕ → ℕ → Type 0 where
  itself : {n : ℕ} → Within b n n
  deeper : {m n : ℕ} (k : ℕ) → StandsOn b n k → Within b m k → Within b m n

-- block n's card is out of date: the block, or one beneath it, was retimed after that card was last worked
pub record Stale {M : Type 0} (b : Book M) (n : ℕ) : Type 0 where
  pub block : ℕ
  pub within : Within b block n
  pub later : (at b n).worked < (at b block).retimed

-- n is a block of the book, and its card is not out of date
abbrev pub Current : {M : Type 0} → Book M → ℕ → Type 0
Current b n = (n < size b) × (Stale b n → ⊥)

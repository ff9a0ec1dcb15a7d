-- What the functions behind enter, preview and rework find in the tables. Assumes nothing.
use Rattle.std.specs.Prelude.{◌≡◌, ℕ, ◌+◌, ◌*◌, ◌<◌, ◌≤◌, true, false, ◌⊎◌, List, [], length, take, drop, is_ok, Ok, Result, slice_index_or, slice_set}
use Rattle.costs.specs.Entries.{entry_ops}
use Rattle.costs.specs.Lists.{Sized}
use Rattle.costs.specs.declared.entry.Entry.{Entry}
use Rattle.networks.specs.Networks.{Fit}
use Rattle.networks.specs.Rows.{list_at}
use Rattle.networks.specs.declared.beneath.Face.{Face}
use Rattle.sheets.specs.Refusals.{framing_of, check_of}
use Rattle.sheets.specs.Sheets.{Sheet, sheet_of}
use Rattle.library.specs.Books.{Rules, Book, size, at, instance_of, with_work, Stale, Current}
use Rattle.library.specs.Checks.{Lent, Blocks, Verdict, turned, fine, Never, FirstAt, Bad, Framed, Missing, Behind, cards_beneath, network, Misnamed, Named, CardOf}
use Rattle.library.specs.Law.{GoesOn}
use Rattle.library.specs.Marks.{Counted, kept_end}
use Rattle.library.specs.Memory.{Stands}
use Rattle.library.specs.Refusals.{Told, by_library}
use Rattle.library.specs.Replies.{verdict, reply}
use Rattle.library.specs.Steps.{EnterLacks, PreviewLacks, Placing, Renewing, Reworking, rework, done}
use Rattle.library.specs.Tables.{row_at, row_of, lens_of, card_rows, overwritten, kept_face, kept_list, blocks_kept, sizes_of}
use Rattle.library.specs.declared.refusal.Refusal.{Refusal}
use Rattle.library.specs.declared.row.Row.{Row}

-- so many working rows and so many of the caller's rows
abbrev pub lent_of : ℕ → ℕ → Lent
lent_of rows out = record { rows = rows; out = out }

-- the interfaces and the cards of blocks by the numbers that instances name
abbrev pub faces_kept : List Row → List ℕ → ℕ → Face
faces_kept index names i = kept_face index (slice_index_or names i 255)

abbrev pub cards_kept : {M : Type 0} → List Row → List (Entry M) → List ℕ → ℕ → ℕ → List (Entry M)
cards_kept index cards names i f = kept_list index cards (slice_index_or names i 255) f

-- instance i names no block below n
pub record Beyond (n : ℕ) (s : Sheet) (i : ℕ) : Type 0 where
  pub instance : i < length s.instances
  pub beyond : n ≤ instance_of s i

-- instance i names a block whose row is marked
pub record Old (index : List Row) (s : Sheet) (i : ℕ) : Type 0 where
  pub instance : i < length s.instances
  pub old : (row_at index (instance_of s i)).old ≡ true

-- check 1 fails, or check 2 after it
abbrev pub Unsheeted : ℕ → List ℕ → Told → Type 0
Unsheeted w bs t = Bad (framing_of bs) t ⊎ (Framed bs × Bad (check_of w bs) t)

module _ {M : Type 0} (v : Blocks M) where
  -- checks 3 to 6 pass
  pub record Placeable (s : Sheet) : Type 0 where
    pub there : Never (Missing v s)
    pub current : Never (Behind v s)
    pub named : Named v s

  -- the first of them that fails
  pub data Unplaced (w : ℕ) (bs : List ℕ) (t : Told) : Type 0 where
    missing : FirstAt 3 (Missing v (sheet_of w bs)) t → Unplaced w bs t
    behind : Never (Missing v (sheet_of w bs)) → FirstAt 4 (Behind v (sheet_of w bs)) t → Unplaced w bs t
    misnamed : Never (Missing v (sheet_of w bs)) → Never (Behind v (sheet_of w bs)) → Misnamed v w bs t → Unplaced w bs t

-- the first 128 rows are a card of a block with so many inputs, whose lists have these lengths
pub record CardIn {M : Type 0} (zero : Entry M) (inputs : ℕ) (rows : List (Entry M)) (lens : List ℕ) : Type 0 where
  pub sized : (e : ℕ) → e < inputs → Sized (list_at rows lens e)
  pub none : (e : ℕ) → inputs ≤ e → list_at rows lens e ≡ []
  pub lengths : lens ≡ lens_of (list_at rows lens)
  pub front : take 128 rows ≡ card_rows zero (list_at rows lens)

-- a new block's bytes, row and card stand in the tables, the bytes from `start` on, the block as number n
pub record Kept {M : Type 0} (rules : Rules M) (v : Blocks M) (bs : List ℕ) (n start : ℕ) (shelf : List ℕ) (index : List Row) (cards : List (Entry M)) (shelf' : List ℕ) (index' : List Row) (cards' : List (Entry M)) : Type 0 where
  pub card : ℕ → List (Entry M)
  pub worked : Fit (network v (sheet_of rules.wide bs)) (cards_beneath v (sheet_of rules.wide bs)) → CardOf rules v (sheet_of rules.wide bs) card
  pub sized : (e : ℕ) → e < (sheet_of rules.wide bs).face.inputs → Sized (card e)
  pub shelf_is : shelf' ≡ overwritten shelf start bs
  pub index_is : index' ≡ slice_set index n (record { used = true; start = start; len = length bs; inputs = (sheet_of rules.wide bs).face.inputs; outputs = (sheet_of rules.wide bs).face.outputs; lens = lens_of card; old = false })
  pub cards_is : cards' ≡ overwritten cards (128 * n) (card_rows (entry_ops rules.ops).zero card)

-- what enter found of a checked sheet: checks 3 to 10 over the blocks that the tables hold, where what lies beneath keeps the limits of every block
module _ {M : Type 0} (rules : Rules M) (bs : List ℕ) (shelf : List ℕ) (index : List Row) (cards : List (Entry M)) (lent : Lent) where
  abbrev pub Found : ℕ → Verdict (ℕ → List (Entry M)) → Type 0
  Found n w =
      Fit (network (blocks_kept n index cards) (sheet_of rules.wide bs)) (cards_beneath (blocks_kept n index cards) (sheet_of rules.wide bs))
      → Placing rules (blocks_kept n index cards) bs (EnterLacks (sizes_of shelf index cards) lent (kept_end index n) n (length bs)) w

  pub record Turned (t : Told) : Type 0 where
    pub count : ℕ
    pub counted : Counted index count
    pub found : Found count (turned t)

  pub record Entered (shelf' : List ℕ) (index' : List Row) (cards' : List (Entry M)) (n : ℕ) : Type 0 where
    pub counted : Counted index n
    pub placed : Placeable (blocks_kept n index cards) (sheet_of rules.wide bs)
    pub room : Never (EnterLacks (sizes_of shelf index cards) lent (kept_end index n) n (length bs))
    pub kept : Kept rules (blocks_kept n index cards) bs n (kept_end index n) shelf index cards shelf' index' cards'

-- what rework found of a kept sheet
module _ {M : Type 0} (rules : Rules M) (s : Sheet) (count : ℕ) (index : List Row) (cards : List (Entry M)) (lent : Lent) where
  -- nothing but tables that `new` did not begin is otherwise: what lies beneath keeps the limits, the names are right, and the card's rows are there
  pub record Regular (n : ℕ) : Type 0 where
    pub fit : Fit (network (blocks_kept count index cards) s) (cards_beneath (blocks_kept count index cards) s)
    pub named : Named (blocks_kept count index cards) s
    pub room : 128 * n + 128 ≤ length cards

  pub record Renewed (n : ℕ) (index' : List Row) (cards' : List (Entry M)) : Type 0 where
    pub card : ℕ → List (Entry M)
    pub renewing : Regular n → Renewing rules (blocks_kept count index cards) s lent (fine card)
    pub sized : (e : ℕ) → e < s.face.inputs → Sized (card e)
    pub index_is : index' ≡ slice_set index n (record { used = (row_at index n).used; start = (row_at index n).start; len = (row_at index n).len; inputs = (row_at index n).inputs; outputs = (row_at index n).outputs; lens = lens_of card; old = false })
    pub cards_is : cards' ≡ overwritten cards (128 * n) (card_rows (entry_ops rules.ops).zero card)

-- what rework of block n answers by the book: 3; a current card is accepted as it is; else 4, 7 and the working
pub data Reworks {M : Type 0} (rules : Rules M) (b : Book M) (lent : Lent) (n : ℕ) : Verdict (ℕ → List (Entry M)) → Type 0 where
  no_block : size b ≤ n → Reworks rules b lent n (turned (by_library 3 n))
  current : Current b n → (card : ℕ → List (Entry M)) → card ≡ (at b n).card → Reworks rules b lent n (fine card)
  outdated : n < size b → Stale b n → (w : Verdict (ℕ → List (Entry M))) → Reworking rules b lent n w → Reworks rules b lent n w

-- what preview found of a placed sheet, whose card stands in the first 128 rows of `out`
pub record Previewed {M : Type 0} (rules : Rules M) (v : Blocks M) (s : Sheet) (lent : Lent) (before out : List (Entry M)) (lens : List ℕ) : Type 0 where
  pub room : Never (PreviewLacks lent)
  pub worked : Fit (network v s) (cards_beneath v s) → CardOf rules v s (list_at out lens)
  pub rows : out ≡ overwritten before 0 (card_rows (entry_ops rules.ops).zero (list_at out lens))
  pub lengths : lens ≡ lens_of (list_at out lens)

-- the row with these lengths of the lists, and current
abbrev pub renewed_row : Row → List ℕ → Row
renewed_row r lens = record { used = r.used; start = r.start; len = r.len; inputs = r.inputs; outputs = r.outputs; lens = lens; old = false }

-- block n, whose kept sheet this is, can be worked again: what it stands on is current, there are so many working rows and rows of its own, and its numbers name something
pub record Again {M : Type 0} (s : Sheet) (index : List Row) (cards : List (Entry M)) (rows n : ℕ) : Type 0 where
  pub current : Never (Old index s)
  pub room : (3072 ≤ rows) × (128 * n + 128 ≤ length cards)
  pub named : Named (blocks_kept 0 index cards) s

-- a card worked again for block n, in its rows and its row
pub record Redone {M : Type 0} (rules : Rules M) (v : Blocks M) (s : Sheet) (n : ℕ) (index : List Row) (cards : List (Entry M)) (index' : List Row) (cards' : List (Entry M)) : Type 0 where
  pub card : ℕ → List (Entry M)
  pub worked : Fit (network v s) (cards_beneath v s) → CardOf rules v s card
  pub sized : (e : ℕ) → e < s.face.inputs → Sized (card e)
  pub index_is : index' ≡ slice_set index n (record { used = (row_at index n).used; start = (row_at index n).start; len = (row_at index n).len; inputs = (row_at index n).inputs; outputs = (row_at index n).outputs; lens = lens_of card; old = false })
  pub cards_is : cards' ≡ overwritten cards (128 * n) (card_rows (entry_ops rules.ops).zero card)

-- what rework of block n promises of its answer, the index and the cards, by every book that the tables stood for
pub record Settled {M : Type 0} (rules : Rules M) (lent : Lent) (n : ℕ) (shelf : List ℕ) (index : List Row) (cards : List (Entry M)) (r : Result Unit Refusal) (index' : List Row) (cards' : List (Entry M)) : Type 0 where
  pub answer : (b : Book M) → Stands rules b shelf index cards → Reworks rules b lent n (verdict (λ _. kept_list index' cards' n) r)
  pub index_is : (b : Book M) → Stands rules b shelf index cards → is_ok r ≡ true → ((Stale b n → ⊥) → index' ≡ index) × (Stale b n → index' ≡ slice_set index n (row_of (with_work b n (kept_list index' cards' n)) n false))
  pub cards_is : (b : Book M) → Stands rules b shelf index cards → is_ok r ≡ true → ((Stale b n → ⊥) → cards' ≡ cards) × (Stale b n → cards' ≡ overwritten cards (128 * n) (card_rows (entry_ops rules.ops).zero (kept_list index' cards' n)))
  pub book : GoesOn rules (rework n) lent (reply (λ _. done) r) shelf index cards shelf index' cards'

-- the card of block n, worked again, stands in the working rows from row 2,816 on, its lists of these lengths: written as the block's, it keeps the promise of rework
pub record Reworked {M : Type 0} (rules : Rules M) (lent : Lent) (n : ℕ) (shelf : List ℕ) (index : List Row) (cards : List (Entry M)) (rows : List (Entry M)) (lens : List ℕ) : Type 0 where
  pub many : 3072 ≤ length rows
  pub room : (n < length index) × (128 * n + 128 ≤ length cards)
  pub written : (index' : List Row) (cards' : List (Entry M)) → index' ≡ slice_set index n (renewed_row (row_at index n) lens) → cards' ≡ overwritten cards (128 * n) (take 128 (drop 2816 rows)) → Settled rules lent n shelf index cards (Ok tt) index' cards'

-- When the lent tables stand for a book: what holds of the book, and what each table then has. Assumes nothing.
use Rattle.std.specs.Prelude.{◌≡◌, ℕ, ◌*◌, ◌<◌, ◌≤◌, true, List, [], length, take, drop}
use Rattle.costs.specs.Entries.{entry_ops}
use Rattle.costs.specs.Lists.{Sized}
use Rattle.costs.specs.declared.entry.Entry.{Entry}
use Rattle.sheets.specs.Form.{Form}
use Rattle.sheets.specs.Sheets.{sheet_of}
use Rattle.library.specs.Books.{Rules, Book, size, at, inputs_of, used, StandsOn, Stale}
use Rattle.library.specs.Checks.{blocks_of, Framed, Right, Named, CardOf}
use Rattle.library.specs.Tables.{no_row, row_at, row_of, card_rows, sheet_bytes}
use Rattle.library.specs.declared.row.Row.{Row}

-- what holds of block n of a book: its sheet keeps the limits of a sheet, stands on earlier blocks, and names what is there;
-- its card has a list of 1 to 16 entries for each input event, and while it is current it is formed by the rules from its sheet and the cards beneath
pub record BlockFacts {M : Type 0} (rules : Rules M) (b : Book M) (n : ℕ) : Type 0 where
  pub form : Form rules.wide (at b n).sheet
  pub earlier : (k : ℕ) → StandsOn b n k → k < n
  pub named : Named (blocks_of b) (at b n).sheet
  pub sized : (e : ℕ) → e < inputs_of b n → Sized ((at b n).card e)
  pub none : (e : ℕ) → inputs_of b n ≤ e → (at b n).card e ≡ []
  pub card : (Stale b n → ⊥) → CardOf rules (blocks_of b) (at b n).sheet (at b n).card

-- the times of the book are past, and what stands on a block whose card is out of date is itself out of date
pub record Times {M : Type 0} (b : Book M) : Type 0 where
  pub worked : (n : ℕ) → (at b n).worked < b.clock
  pub retimed : (n : ℕ) → (at b n).retimed < b.clock
  pub upward : (n k : ℕ) → n < size b → StandsOn b n k → Stale b k → Stale b n

-- what holds of every book that calls have made
pub record BookFacts {M : Type 0} (rules : Rules M) (b : Book M) : Type 0 where
  pub few : size b ≤ 64
  pub blocks : (n : ℕ) → n < size b → BlockFacts rules b n
  pub times : Times b

-- the shelf has the book's sheets, end to end
pub record Shelved {M : Type 0} (wide : ℕ) (b : Book M) (shelf : List ℕ) : Type 0 where
  pub room : used b ≤ length shelf
  pub framed : (n : ℕ) → n < size b → Framed (sheet_bytes b shelf n)
  pub right : (n : ℕ) → n < size b → Right wide (sheet_bytes b shelf n)
  pub says : (n : ℕ) → n < size b → sheet_of wide (sheet_bytes b shelf n) ≡ (at b n).sheet

-- the index has a row for each block, marked exactly where its card is out of date, and unused rows behind
pub record Indexed {M : Type 0} (b : Book M) (index : List Row) : Type 0 where
  pub room : size b ≤ length index
  pub rows : (n : ℕ) → n < size b → row_at index n ≡ row_of b n (row_at index n).old
  pub unused : (n : ℕ) → size b ≤ n → row_at index n ≡ no_row
  pub marked : (n : ℕ) → n < size b → (row_at index n).old ≡ true → Stale b n
  pub stale : (n : ℕ) → n < size b → Stale b n → (row_at index n).old ≡ true

-- the cards' rows hold each block's card
pub record Held {M : Type 0} (zero : Entry M) (b : Book M) (cards : List (Entry M)) : Type 0 where
  pub room : 128 * size b ≤ length cards
  pub rows : (n : ℕ) → n < size b → take 128 (drop (128 * n) cards) ≡ card_rows zero (at b n).card

-- the tables stand for the book
pub record Stands {M : Type 0} (rules : Rules M) (b : Book M) (shelf : List ℕ) (index : List Row) (cards : List (Entry M)) : Type 0 where
  pub book : BookFacts rules b
  pub shelf_has : Shelved rules.wide b shelf
  pub index_has : Indexed b index
  pub cards_have : Held (entry_ops rules.ops).zero b cards

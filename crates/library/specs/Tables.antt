-- What the lent tables hold for a book, row by row. Assumes nothing.
-- Rows of cards come 128 to a block, 16 to an event.
use Rattle.std.specs.Prelude.{◌≡◌, ℕ, ◌+◌, ◌*◌, ◌<◌, Bool, true, false, List, [], ◌∷◌, ◌++◌, length, take, drop, replicate, slice_index_or}
use Rattle.std.specs.List.{flat_map}
use Rattle.costs.specs.declared.entry.Entry.{Entry}
use Rattle.networks.specs.Rows.{list_at}
use Rattle.networks.specs.declared.beneath.Face.{Face}
use Rattle.sheets.specs.Form.{AmountAt}
use Rattle.library.specs.Books.{Book, size, at, start_of, Within}
use Rattle.library.specs.Checks.{Sizes, Blocks}
use Rattle.library.specs.declared.row.Row.{Row}

-- a row of the index that no block has
abbrev pub no_row : Row
no_row = record { used = false; start = 0; len = 0; inputs = 0; outputs = 0; lens = replicate 8 0; old = false }

-- row n of the index
abbrev pub row_at : List Row → ℕ → Row
row_at index n = slice_index_or index n no_row

-- the eight events that a block can have
abbrev pub events : List ℕ
events = 0 ∷ 1 ∷ 2 ∷ 3 ∷ 4 ∷ 5 ∷ 6 ∷ 7 ∷ []

-- how many entries the list of each of the eight events has
abbrev pub lens_of : {M : Type 0} → (ℕ → List (Entry M)) → List ℕ
lens_of card = length (card 0) ∷ length (card 1) ∷ length (card 2) ∷ length (card 3) ∷ length (card 4) ∷ length (card 5) ∷ length (card 6) ∷ length (card 7) ∷ []

-- the index row of block n, marked out of date or not
abbrev pub row_of : {M : Type 0} → Book M → ℕ → Bool → Row
row_of b n old =
    record {
      used = true;
      start = start_of b n;
      len = (at b n).bytes;
      inputs = (at b n).sheet.face.inputs;
      outputs = (at b n).sheet.face.outputs;
      lens = lens_of (at b n).card;
      old = old;
    }

-- the row marked out of date
abbrev pub marked_row : Row → Row
marked_row r = record { used = r.used; start = r.start; len = r.len; inputs = r.inputs; outputs = r.outputs; lens = r.lens; old = true }

-- a list in 16 rows: rows past it hold the zero entry
abbrev pub padded : {X : Type 0} → X → List X → List X
padded zero xs = take 16 (xs ++ replicate 16 zero)

-- a card in 128 rows, 16 for each event
abbrev pub card_rows : {M : Type 0} → Entry M → (ℕ → List (Entry M)) → List (Entry M)
card_rows zero card = flat_map (λ e. padded zero (card e)) events

-- the bytes of block n's sheet on the shelf
abbrev pub sheet_bytes : {M : Type 0} → Book M → List ℕ → ℕ → List ℕ
sheet_bytes b shelf n = take (at b n).bytes (drop (start_of b n) shelf)

-- a table with other elements in the place of those from p on
abbrev pub overwritten : {X : Type 0} → List X → ℕ → List X → List X
overwritten xs p new = take p xs ++ (new ++ drop (p + length new) xs)

-- the list of event e on the card that the tables hold for block n
abbrev pub kept_list : {M : Type 0} → List Row → List (Entry M) → ℕ → ℕ → List (Entry M)
kept_list index cards n e = list_at (drop (128 * n) cards) (row_at index n).lens e

-- the interface that the index holds for block n
abbrev pub kept_face : List Row → ℕ → Face
kept_face index n = record { inputs = (row_at index n).inputs; outputs = (row_at index n).outputs }

-- so many blocks as the tables hold them
abbrev pub blocks_kept : {M : Type 0} → ℕ → List Row → List (Entry M) → Blocks M
blocks_kept count index cards = record { count = count; old = λ n. (row_at index n).old ≡ true; face = kept_face index; card = kept_list index cards }

-- how long the tables are
abbrev pub sizes_of : {M : Type 0} → List ℕ → List Row → List (Entry M) → Sizes
sizes_of shelf index cards = record { shelf = length shelf; index = length index; cards = length cards }

-- after a retime of block n: its row and those of all blocks above it are marked, the others are as they were
pub record Remarked {M : Type 0} (b : Book M) (n : ℕ) (before after : List Row) : Type 0 where
  pub same_length : length after ≡ length before
  pub above : (m : ℕ) → m < size b → Within b n m → row_at after m ≡ marked_row (row_at before m)
  pub others : (m : ℕ) → (Within b n m → ⊥) → row_at after m ≡ row_at before m

-- after a retime: the bytes of the one amount are replaced, where it stands in block n's sheet
pub record Replaced {M : Type 0} (wide : ℕ) (b : Book M) (n k : ℕ) (new before after : List ℕ) : Type 0 where
  pub place : ℕ
  pub stands : AmountAt wide (sheet_bytes b before n) k place
  pub is : after ≡ overwritten before (start_of b n + place) new

-- How the calls read the index: how many blocks it has, what a kept sheet names, and which rows are marked. Assumes nothing.
use Rattle.std.specs.Prelude.{◌≡◌, ℕ, zero, suc, ◌+◌, ◌<◌, ◌≤◌, Bool, true, false, cond, ◌&&◌, ◌||◌, List, [], ◌∷◌, length, take, drop, is_ok, ◌≢◌, nat_lt, slice_index_or}
use Rattle.sheets.specs.Refusals.{framing_of, check_of}
use Rattle.sheets.specs.Sheets.{sheet_of}
use Rattle.library.specs.Tables.{row_at}
use Rattle.library.specs.declared.row.Row.{Row}

-- r is the number of the first unused row, of 64 at most
pub record Counted (index : List Row) (r : ℕ) : Type 0 where
  pub few : r ≤ 64
  pub within : r ≤ length index
  pub used : (n : ℕ) → n < r → (row_at index n).used ≡ true
  pub unused : r < 64 → (row_at index r).used ≡ false

-- where the sheets of the first n rows end on the shelf
abbrev pub kept_end : List Row → ℕ → ℕ
kept_end index zero = 0
kept_end index (suc n) = (row_at index n).start + (row_at index n).len

-- the bytes on the shelf that a row stands for
abbrev pub kept_bytes : List ℕ → Row → List ℕ
kept_bytes shelf row = take row.len (drop row.start shelf)

-- the blocks that a kept sheet's instances name; bytes that make no sheet name none
abbrev pub kept_names : ℕ → List ℕ → Row → List ℕ
kept_names wide shelf row =
    cond (is_ok (framing_of (kept_bytes shelf row)) && is_ok (check_of wide (kept_bytes shelf row))) (sheet_of wide (kept_bytes shelf row)).instances []

-- one of these blocks, below n, is marked
abbrev pub leans : List Row → ℕ → List ℕ → Bool
leans index n [] = false
leans index n (k ∷ ks) = (nat_lt k n && (row_at index k).old) || leans index n ks

-- name i is that of a block below n, and that block is marked
pub record NamesMarked (index : List Row) (n : ℕ) (names : List ℕ) (i : ℕ) : Type 0 where
  pub name : i < length names
  pub below : slice_index_or names i 255 < n
  pub marked : (row_at index (slice_index_or names i 255)).old ≡ true

-- the row with that mark
abbrev pub with_mark : Row → Bool → Row
with_mark r old = record { used = r.used; start = r.start; len = r.len; inputs = r.inputs; outputs = r.outputs; lens = r.lens; old = old }

-- of the first `count` rows, that of the block is marked, and so is each that stands on a marked one; nothing else is changed
pub record Marked (wide : ℕ) (shelf : List ℕ) (block count : ℕ) (before after : List Row) : Type 0 where
  pub same_length : length after ≡ length before
  pub rows : (n : ℕ) → row_at after n ≡ with_mark (row_at before n) (row_at after n).old
  pub past : (n : ℕ) → count ≤ n → row_at after n ≡ row_at before n
  pub itself : (row_at after block).old ≡ true
  pub marks : (n : ℕ) → n < count → (n ≢ block) → (row_at after n).old ≡ ((row_at before n).old || leans after n (kept_names wide shelf (row_at before n)))

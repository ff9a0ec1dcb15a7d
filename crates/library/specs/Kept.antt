-- Where an amount of a kept sheet stands on the shelf. Assumes nothing.
use Rattle.std.specs.Prelude.{◌≡◌, ℕ, ◌+◌, ◌<◌, ◌≤◌, true, ◌&&◌, List, length, is_ok}
use Rattle.sheets.specs.Form.{AmountAt}
use Rattle.sheets.specs.Refusals.{framing_of, check_of}
use Rattle.sheets.specs.Sheets.{sheet_of}
use Rattle.library.specs.Marks.{kept_bytes}
use Rattle.library.specs.declared.row.Row.{Row}

-- the amount of algorithm k stands p bytes into the sheet that a row stands for, and the shelf goes so far
pub record KeptAmount (wide : ℕ) (shelf : List ℕ) (row : Row) (k p : ℕ) : Type 0 where
  pub named : k < length (sheet_of wide (kept_bytes shelf row)).amounts
  pub stands : AmountAt wide (kept_bytes shelf row) k p
  pub within : row.start + p + wide ≤ length shelf

-- if the bytes that a row stands for make a sheet, it has no algorithm k
abbrev pub NoAmount : ℕ → List ℕ → Row → ℕ → Type 0
NoAmount wide shelf row k =
    (is_ok (framing_of (kept_bytes shelf row)) && is_ok (check_of wide (kept_bytes shelf row))) ≡ true → length (sheet_of wide (kept_bytes shelf row)).amounts ≤ k

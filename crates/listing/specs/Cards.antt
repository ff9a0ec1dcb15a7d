-- The lines of lists and cards that stand in rows. Assumes nothing.
use Rattle.std.specs.Prelude.{ℕ, zero, suc, ◌+◌, ◌*◌, cond, List, [], ◌∷◌, ◌++◌, drop, Some, None, codes, Option}
use Rattle.costs.specs.declared.entry.Entry.{Entry}
use Rattle.networks.specs.Rows.{list_at}
use Rattle.library.specs.declared.row.Row.{Row}
use Rattle.listing.specs.Lines.{entry_line}

-- the block, where it is told, before other numbers
abbrev pub numbers_of : Option ℕ → List ℕ → List ℕ
numbers_of None ns = ns
numbers_of (Some n) ns = n ∷ ns

module _ {M : Type 0} (spelt : M → List ℕ) where
  -- the line of one entry: the block, where it is told, its event and its position
  abbrev pub row_line : List ℕ → Option ℕ → ℕ → ℕ → Entry M → ℕ → List ℕ
  row_line word block event at e outputs = entry_line spelt word (numbers_of block (event ∷ at ∷ [])) e outputs

  -- the lines of a list, from position `at` on
  abbrev pub list_lines : List ℕ → Option ℕ → ℕ → ℕ → ℕ → List (Entry M) → List ℕ
  list_lines word block event outputs at [] = []
  list_lines word block event outputs at (e ∷ es) = row_line word block event at e outputs ++ list_lines word block event outputs (at + 1) es

  -- the lines of n events' lists, from event e on
  abbrev pub card_lines : List ℕ → Option ℕ → ℕ → (ℕ → List (Entry M)) → ℕ → ℕ → List ℕ
  card_lines word block outputs lists e zero = []
  card_lines word block outputs lists e (suc n) = list_lines word block e outputs 0 (lists e) ++ card_lines word block outputs lists (e + 1) n

  -- the lines of block n's card, if it is current; 128 rows hold a block's card
  abbrev pub block_lines : List (Entry M) → ℕ → Row → List ℕ
  block_lines cards n r = cond r.old [] (card_lines (codes "card") (Some n) r.outputs (list_at (drop (128 * n) cards) r.lens) 0 r.inputs)

  -- the lines of the current cards of these index rows, from block n on, up to the first unused row
  abbrev pub rows_lines : List (Entry M) → ℕ → List Row → List ℕ
  rows_lines cards n [] = []
  rows_lines cards n (r ∷ rs) = cond r.used (block_lines cards n r ++ rows_lines cards (n + 1) rs) []

-- Lists in lent rows: 16 rows for each, of which as many count as its length says. Assumes nothing.
use Rattle.std.specs.Prelude.{◌≡◌, ℕ, ◌+◌, ◌*◌, ◌<◌, ◌≤◌, List, length, take, drop, Some, None, Option, ◌≢◌, slice_index, slice_index_or}
use Rattle.costs.specs.Forming.{Formation, list, long}

-- list k stands in rows 16 k and on
abbrev pub list_at : {X : Type 0} → List X → List ℕ → ℕ → List X
list_at rows lens k = take (slice_index lens k) (drop (16 * k) rows)

-- room for each list, and no list above 16; one that is not worked has length 0
pub record Lent {X : Type 0} (rows : List X) (lens : List ℕ) : Type 0 where
  pub room : 16 * length lens ≤ length rows
  pub short : (k : ℕ) → slice_index lens k ≤ 16

-- a forming that came to the first n rows
pub record Listed {X : Type 0} (P : Formation X → Type 0) (rows : List X) (n : ℕ) : Type 0 where
  pub formed : P (list (take n rows))
  pub some : 1 ≤ n
  pub few : n ≤ 16

-- what a forming came to: the first so many rows, or a stop at a reduced list above 16
abbrev pub Came : {X : Type 0} → (Formation X → Type 0) → List X → Option ℕ → Type 0
Came P rows (Some n) = Listed P rows n
Came P rows None = P long

-- list k is now one that P allows, and the others are as they were
pub record Stored {X : Type 0} (P : List X → Type 0) (k : ℕ) (rows : List X) (lens : List ℕ) (rows' : List X) (lens' : List ℕ) : Type 0 where
  pub lent : Lent rows' lens'
  pub result : P (list_at rows' lens' k)
  pub worked : 1 ≤ slice_index lens' k
  pub others : (t : ℕ) → (t ≢ k) → list_at rows' lens' t ≡ list_at rows lens t
  pub lengths : (t : ℕ) → (t ≢ k) → slice_index lens' t ≡ slice_index lens t
  -- all rows but those of the list are as they were
  pub rest : (q : ℕ) (d : X) → (16 * k ≤ q → q < 16 * k + slice_index lens' k → ⊥) → slice_index_or rows' q d ≡ slice_index_or rows q d

-- rows past a list hold x
abbrev pub Padded : {X : Type 0} → X → List X → List ℕ → Type 0
Padded x rows lens = (k j : ℕ) → slice_index lens k ≤ j → j < 16 → slice_index_or rows (16 * k + j) x ≡ x

-- Fields end to end, as a relation. Assumes nothing.
use Rattle.std.specs.Prelude.{◌≡◌, ℕ, ◌+◌, ◌*◌, ◌<◌, List, [], ◌∷◌, ◌++◌, length, take, drop, Ok, Err, Result}
use Rattle.sheets.specs.Frames.{Raw}
use Rattle.sheets.specs.Refusals.{number, level, place}
use Rattle.sheets.specs.declared.refusal.Refusal.{Refusal}
use Rattle.sheets.specs.declared.refusal.Refusal.TheVariants.{Cut}

-- the bytes are these fields, end to end
pub data Splits : List ℕ → List Raw → Type 0 where
  none : Splits [] []
  more : (tag high low : ℕ) (content rest : List ℕ) (fs : List Raw) → length content ≡ high * 256 + low → Splits rest fs → Splits (tag ∷ high ∷ low ∷ content ++ rest) (record { tag = tag; content = content } ∷ fs)

-- bytes begin with a whole field
abbrev pub Begins : List ℕ → Type 0
Begins bs = (tag high low : ℕ) × (content rest : List ℕ) × (length content ≡ high * 256 + low) × (bs ≡ tag ∷ high ∷ low ∷ content ++ rest)

-- some fields fill the bytes up to p, where the next one runs past the end
pub record CutAt (bs : List ℕ) (p : ℕ) : Type 0 where
  pub fs : List Raw
  pub before : Splits (take p bs) fs
  pub inside : p < length bs
  pub runs_past : Begins (drop p bs) → ⊥

-- what an answer of check 1 says
abbrev pub Stated : List ℕ → Result Unit Refusal → Type 0
Stated bs (Ok u) = (fs : List Raw) × Splits bs fs
Stated bs (Err e) = (number e ≡ 1) × (level e ≡ 1) × CutAt bs (place e)

-- check 1 answers what is so, accepts whatever lies end to end, and names every cut's place
pub record Framing (bs : List ℕ) (r : Result Unit Refusal) : Type 0 where
  pub sound : Stated bs r
  pub accepts : (fs : List Raw) → Splits bs fs → r ≡ Ok tt
  pub refuses : (p : ℕ) → CutAt bs p → r ≡ Err (Cut p)

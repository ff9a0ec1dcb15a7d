-- Counts and entries: their sum, covering, zero and the higher of two. Assumes nothing.
use Rattle.std.specs.Prelude.{◌≡◌, ℕ, zero, suc, ◌+◌, ◌<◌, min, max, Bool, true, ◌&&◌, List, [], ◌∷◌, ◌++◌, length, replicate, nat_le, slice_index, refl}
use Rattle.std.proofs.Common.{ap, arith}
use Rattle.costs.specs.Amounts.{Amounts}
use Rattle.costs.specs.declared.counts.Counts.{Counts}
use Rattle.costs.specs.declared.entry.Entry.{Entry}

-- the first n numbers as counts, each 255 at most; those that are missing are zero
abbrev pub first_counts : ℕ → List ℕ → List ℕ
first_counts zero bs = []
first_counts (suc n) [] = 0 ∷ first_counts n []
first_counts (suc n) (b ∷ bs) = min b 255 ∷ first_counts n bs

-- there are n of them
pub length_first_counts : (n : ℕ) (bs : List ℕ) → length (first_counts n bs) ≡ n
length_first_counts zero bs = refl
length_first_counts (suc n) [] = ap suc (length_first_counts n [])
length_first_counts (suc n) (b ∷ bs) = ap suc (length_first_counts n bs)

-- each is below 256
pub bytes_first_counts : (n : ℕ) (bs : List ℕ) (k : ℕ) → slice_index (first_counts n bs) k < 256
bytes_first_counts zero bs k = omega arith
bytes_first_counts (suc n) [] zero = omega arith
bytes_first_counts (suc n) [] (suc k) = bytes_first_counts n [] k
bytes_first_counts (suc n) (b ∷ bs) zero = omega arith
bytes_first_counts (suc n) (b ∷ bs) (suc k) = bytes_first_counts n bs k

-- eight counts from up to eight bytes, one for each output; bytes past the eighth are not read
abbrev pub counts_of : List ℕ → Counts
counts_of bs = record { at = first_counts 8 bs; eight = length_first_counts 8 bs; bytes = bytes_first_counts 8 bs }

-- nothing is sent
abbrev pub no_counts : Counts
no_counts = counts_of []

-- one count at output p, and none elsewhere
abbrev pub one_count : ℕ → Counts
one_count p = counts_of (replicate p 0 ++ 1 ∷ [])

-- place by place
abbrev pub zipped : (ℕ → ℕ → ℕ) → List ℕ → List ℕ → List ℕ
zipped f [] ys = []
zipped f (x ∷ xs) [] = []
zipped f (x ∷ xs) (y ∷ ys) = f x y ∷ zipped f xs ys

-- of two lists of one length, as many
pub length_zipped : (f : ℕ → ℕ → ℕ) (xs ys : List ℕ) → length xs ≡ length ys → length (zipped f xs ys) ≡ length xs
length_zipped f [] ys e = refl
length_zipped f (x ∷ xs) [] e = omega arith
length_zipped f (x ∷ xs) (y ∷ ys) e = ap suc (length_zipped f xs ys (omega arith))

-- f makes of two counts a count
abbrev pub Fits : (ℕ → ℕ → ℕ) → Type 0
Fits f = (x y : ℕ) → x < 256 → y < 256 → f x y < 256

-- of counts they are counts
pub bytes_zipped : (f : ℕ → ℕ → ℕ) → Fits f → (xs ys : List ℕ) → ((k : ℕ) → slice_index xs k < 256) → ((k : ℕ) → slice_index ys k < 256) → (k : ℕ) → slice_index (zipped f xs ys) k < 256
bytes_zipped f h [] ys p q k = omega arith
bytes_zipped f h (x ∷ xs) [] p q k = omega arith
bytes_zipped f h (x ∷ xs) (y ∷ ys) p q zero = h x y (p 0) (q 0)
bytes_zipped f h (x ∷ xs) (y ∷ ys) p q (suc k) = bytes_zipped f h xs ys (λ j. p (suc j)) (λ j. q (suc j)) k

-- two rows of counts, output by output
abbrev pub counts_by : (f : ℕ → ℕ → ℕ) → Fits f → Counts → Counts → Counts
counts_by f h a b = record {
  at = zipped f a.at b.at;
  eight = omega (arith, length_zipped f a.at b.at (omega arith));
  bytes = bytes_zipped f h a.at b.at a.bytes b.bytes;
}

-- the sum of two counts stays at 255
abbrev pub count_sum : ℕ → ℕ → ℕ
count_sum x y = min (x + y) 255

-- it is a count
pub count_sum_fits : (x y : ℕ) → x < 256 → y < 256 → count_sum x y < 256
count_sum_fits x y p q = omega arith

-- so is the greater of two
pub max_fits : (x y : ℕ) → x < 256 → y < 256 → max x y < 256
max_fits x y p q = omega arith

-- no count of the first list is lower
abbrev pub none_lower : List ℕ → List ℕ → Bool
none_lower [] ys = true
none_lower (x ∷ xs) [] = true
none_lower (x ∷ xs) (y ∷ ys) = nat_le y x && none_lower xs ys

-- counts are added, compared and raised output by output
abbrev pub counts_ops : Amounts Counts
counts_ops = record {
  zero = no_counts;
  plus = counts_by count_sum count_sum_fits;
  covers = λ a b. none_lower a.at b.at;
  higher = counts_by max max_fits;
}

-- how often the entry counts output o
abbrev pub count : {M : Type 0} → Entry M → ℕ → ℕ
count e o = slice_index e.counts.at o

-- an amount, and no counts
abbrev pub amount_alone : {M : Type 0} → M → Entry M
amount_alone a = record { amount = a; counts = no_counts }

-- an entry covers another if its amount covers and no count is lower
abbrev pub entry_ops : {M : Type 0} → Amounts M → Amounts (Entry M)
entry_ops ops = record {
  zero = amount_alone ops.zero;
  plus = λ a b. record { amount = ops.plus a.amount b.amount; counts = counts_ops.plus a.counts b.counts };
  covers = λ a b. ops.covers a.amount b.amount && counts_ops.covers a.counts b.counts;
  higher = λ a b. record { amount = ops.higher a.amount b.amount; counts = counts_ops.higher a.counts b.counts };
}

-- the zero amount, and one count at output p
abbrev pub one_sent : {M : Type 0} → Amounts M → ℕ → Entry M
one_sent ops p = record { amount = ops.zero; counts = one_count p }

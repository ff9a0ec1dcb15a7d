-- Counts output by output, and the laws that follow. Assumes nothing.
use Rattle.std.specs.Prelude.{◌≡◌, ℕ, zero, suc, ◌+◌, ◌<◌, ◌≤◌, min, max, true, ◌&&◌, List, [], ◌∷◌, ◌++◌, length, take, replicate, ◌≢◌, nat_le, slice_index, refl}
use Rattle.std.proofs.Common.{◌∙◌, sym, ap, arith}
use Rattle.std.proofs.lemmas.Bool.{and_parts, and_from, leb-true, le-leb}
use Rattle.costs.specs.Amounts.{Lawful}
use Rattle.costs.specs.Entries.{first_counts, zipped, Fits, counts_by, none_lower, count_sum, counts_of, no_counts, one_count, counts_ops}
use Rattle.costs.specs.declared.counts.Counts.{Counts}
use Rattle.std.proofs.Math.Bool.{and-true, and_assoc}
use Rattle.costs.specs.Same.{same_counts}

get_or_first_counts : (n : ℕ) (bs : List ℕ) (k : ℕ) → k < n → slice_index (first_counts n bs) k ≡ min (slice_index bs k) 255
get_or_first_counts zero bs k l = absurd (omega arith)
get_or_first_counts (suc n) [] zero l = refl
get_or_first_counts (suc n) [] (suc k) l = get_or_first_counts n [] k (omega arith)
get_or_first_counts (suc n) (b ∷ bs) zero l = refl
get_or_first_counts (suc n) (b ∷ bs) (suc k) l = get_or_first_counts n bs k (omega arith)

get_or_zipped : (f : ℕ → ℕ → ℕ) (xs ys : List ℕ) (k : ℕ) → k < length xs → k < length ys → slice_index (zipped f xs ys) k ≡ f (slice_index xs k) (slice_index ys k)
get_or_zipped f [] ys k p q = absurd (omega arith)
get_or_zipped f (x ∷ xs) [] k p q = absurd (omega arith)
get_or_zipped f (x ∷ xs) (y ∷ ys) zero p q = refl
get_or_zipped f (x ∷ xs) (y ∷ ys) (suc k) p q = get_or_zipped f xs ys k (omega arith) (omega arith)

lower_none : (xs ys : List ℕ) → none_lower xs ys ≡ true → (k : ℕ) → k < length xs → k < length ys → slice_index ys k ≤ slice_index xs k
lower_none [] ys e k p q = absurd (omega arith)
lower_none (x ∷ xs) [] e k p q = absurd (omega arith)
lower_none (x ∷ xs) (y ∷ ys) e zero p q = leb-true y x (and_parts _ _ e).0
lower_none (x ∷ xs) (y ∷ ys) e (suc k) p q = lower_none xs ys (and_parts (nat_le y x) _ e).1 k (omega arith) (omega arith)

none_lower_from : (xs ys : List ℕ) → ((k : ℕ) → k < length xs → k < length ys → slice_index ys k ≤ slice_index xs k) → none_lower xs ys ≡ true
none_lower_from [] ys h = refl
none_lower_from (x ∷ xs) [] h = refl
none_lower_from (x ∷ xs) (y ∷ ys) h = and_from _ _ (le-leb y x (h 0 (omega arith) (omega arith))) (none_lower_from xs ys (λ k p q. h (suc k) (omega arith) (omega arith)))

none_lower_suc : (xs ys : List ℕ) (i : ℕ) → i < length xs → i < length ys → none_lower (take (suc i) xs) (take (suc i) ys) ≡ (none_lower (take i xs) (take i ys) && nat_le (slice_index ys i) (slice_index xs i))
none_lower_suc [] ys i p q = absurd (omega arith)
none_lower_suc (x ∷ xs) [] i p q = absurd (omega arith)
none_lower_suc (x ∷ xs) (y ∷ ys) zero p q = and-true (nat_le y x)
none_lower_suc (x ∷ xs) (y ∷ ys) (suc i) p q = ap (λ b. nat_le y x && b) (none_lower_suc xs ys i (omega arith) (omega arith)) ∙ sym (and_assoc (nat_le y x) (none_lower (take i xs) (take i ys)) (nat_le (slice_index ys i) (slice_index xs i)))

-- one more is compared
pub none_lower_more : (xs ys : List ℕ) (i : ℕ) → i < length xs → i < length ys → none_lower (take (i + 1) xs) (take (i + 1) ys) ≡ (none_lower (take i xs) (take i ys) && nat_le (slice_index ys i) (slice_index xs i))
none_lower_more xs ys i p q = let next : i + 1 ≡ suc i = omega arith in ap (λ k. none_lower (take k xs) (take k ys)) next ∙ none_lower_suc xs ys i p q

-- at each of the eight outputs
pub counts_by_at : (f : ℕ → ℕ → ℕ) (a b : Counts) (k : ℕ) → k < 8 → slice_index (zipped f a.at b.at) k ≡ f (slice_index a.at k) (slice_index b.at k)
counts_by_at f a b k l = get_or_zipped f a.at b.at k (omega arith) (omega arith)

pub counts_by_from : (f : ℕ → ℕ → ℕ) (h : Fits f) (a b c : Counts) → ((k : ℕ) → k < 8 → slice_index c.at k ≡ f (slice_index a.at k) (slice_index b.at k)) → c ≡ counts_by f h a b
counts_by_from f h a b c each = same_counts _ _ (λ k l. each k l ∙ sym (counts_by_at f a b k l))

pub counts_of_at : (bs : List ℕ) (k : ℕ) → k < 8 → slice_index (counts_of bs).at k ≡ min (slice_index bs k) 255
counts_of_at bs k l = get_or_first_counts 8 bs k l

pub no_counts_at : (k : ℕ) → k < 8 → slice_index no_counts.at k ≡ 0
no_counts_at k l = counts_of_at [] k l

here : (p : ℕ) → ◌≡◌ {A = ℕ} (slice_index (replicate p 0 ++ 1 ∷ []) p) 1
here zero = refl
here (suc p) = here p

elsewhere : (p k : ℕ) → (k ≢ p) → ◌≡◌ {A = ℕ} (slice_index (replicate p 0 ++ 1 ∷ []) k) 0
elsewhere zero zero apart = absurd (apart refl)
elsewhere zero (suc k) apart = refl
elsewhere (suc p) zero apart = refl
elsewhere (suc p) (suc k) apart = elsewhere p k (λ e. apart (ap suc e))

pub one_count_here : (p k : ℕ) → k < 8 → k ≡ p → slice_index (one_count p).at k ≡ 1
one_count_here p k l e =
    let at : ◌≡◌ {A = ℕ} (slice_index (replicate p 0 ++ 1 ∷ []) k) 1 = ap (λ n. slice_index (replicate p 0 ++ 1 ∷ []) n) e ∙ here p in
    omega (arith, counts_of_at (replicate p 0 ++ 1 ∷ []) k l, at)

pub one_count_elsewhere : (p k : ℕ) → k < 8 → (k ≢ p) → slice_index (one_count p).at k ≡ 0
one_count_elsewhere p k l apart = omega (arith, counts_of_at (replicate p 0 ++ 1 ∷ []) k l, elsewhere p k apart)

pub covers_at : (a b : Counts) → counts_ops.covers a b ≡ true → (k : ℕ) → k < 8 → slice_index b.at k ≤ slice_index a.at k
covers_at a b e k l = lower_none a.at b.at e k (omega arith) (omega arith)

pub covers_from : (a b : Counts) → ((k : ℕ) → k < 8 → slice_index b.at k ≤ slice_index a.at k) → counts_ops.covers a b ≡ true
covers_from a b h = none_lower_from a.at b.at (λ k p q. h k (omega arith))

pub sum_at : (a b : Counts) (k : ℕ) → k < 8 → slice_index (counts_ops.plus a b).at k ≡ min (slice_index a.at k + slice_index b.at k) 255
sum_at a b k l = counts_by_at count_sum a b k l

higher_at : (a b : Counts) (k : ℕ) → k < 8 → slice_index (counts_ops.higher a b).at k ≡ max (slice_index a.at k) (slice_index b.at k)
higher_at a b k l = counts_by_at max a b k l

pub counts_lawful : Lawful counts_ops
counts_lawful = record {
  associative = λ a b c. same_counts _ _ (λ k l. omega (arith, sum_at (counts_ops.plus a b) c k l, sum_at a b k l, sum_at a (counts_ops.plus b c) k l, sum_at b c k l));
  commutative = λ a b. same_counts _ _ (λ k l. omega (arith, sum_at a b k l, sum_at b a k l));
  neutral = λ a. same_counts _ _ (λ k l. omega (arith, sum_at a no_counts k l, no_counts_at k l, a.bytes k));
  reflexive = λ a. covers_from a a (λ k l. omega arith);
  transitive = λ a b c p q. covers_from a c (λ k l. omega (arith, covers_at a b p k l, covers_at b c q k l));
  antisymmetric = λ a b p q. same_counts a b (λ k l. omega (arith, covers_at a b p k l, covers_at b a q k l));
  least = λ a. covers_from a no_counts (λ k l. omega (arith, no_counts_at k l));
  monotone = λ a b c p. covers_from (counts_ops.plus a c) (counts_ops.plus b c) (λ k l. omega (arith, sum_at a c k l, sum_at b c k l, covers_at a b p k l));
  higher_left = λ a b. covers_from (counts_ops.higher a b) a (λ k l. omega (arith, higher_at a b k l));
  higher_right = λ a b. covers_from (counts_ops.higher a b) b (λ k l. omega (arith, higher_at a b k l));
  higher_least = λ a b c p q. covers_from c (counts_ops.higher a b) (λ k l. omega (arith, higher_at a b k l, covers_at c a p k l, covers_at c b q k l));
}

-- What a measure is: the operations on its amounts, and the laws that they keep. Assumes nothing.
use Rattle.std.specs.Prelude.{◌≡◌, Bool, true}

-- the operations on amounts of one measure
pub record Amounts (M : Type 0) : Type 0 where
  -- what costs nothing
  pub zero : M
  -- the sum of two amounts
  pub plus : M → M → M
  -- whether the first covers the second: it is enough wherever the second is
  pub covers : M → M → Bool
  -- the higher of two
  pub higher : M → M → M

-- the laws that whoever adds a measure shows
pub record Lawful {M : Type 0} (ops : Amounts M) : Type 0 where
  -- sum is associative and commutative, and adding zero leaves an amount unchanged
  pub associative : (a b c : M) → ops.plus (ops.plus a b) c ≡ ops.plus a (ops.plus b c)
  pub commutative : (a b : M) → ops.plus a b ≡ ops.plus b a
  pub neutral : (a : M) → ops.plus a ops.zero ≡ a
  -- every amount covers itself; covering goes on; two that cover each other are equal
  pub reflexive : (a : M) → ops.covers a a ≡ true
  pub transitive : (a b c : M) → ops.covers a b ≡ true → ops.covers b c ≡ true → ops.covers a c ≡ true
  pub antisymmetric : (a b : M) → ops.covers a b ≡ true → ops.covers b a ≡ true → a ≡ b
  -- every amount covers zero
  pub least : (a : M) → ops.covers a ops.zero ≡ true
  -- if a covers b, then a plus c covers b plus c
  pub monotone : (a b c : M) → ops.covers a b ≡ true → ops.covers (ops.plus a c) (ops.plus b c) ≡ true
  -- the higher of two covers both, and every amount that covers both covers it
  pub higher_left : (a b : M) → ops.covers (ops.higher a b) a ≡ true
  pub higher_right : (a b : M) → ops.covers (ops.higher a b) b ≡ true
  pub higher_least : (a b c : M) → ops.covers c a ≡ true → ops.covers c b ≡ true → ops.covers c (ops.higher a b) ≡ true

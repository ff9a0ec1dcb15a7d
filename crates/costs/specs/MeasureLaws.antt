-- The laws that ticks and memory answer as measures. Assumes nothing.
use Rattle.std.specs.Prelude.{◌≤◌}
use Rattle.std.proofs.Common.{arith, rules}
use Rattle.costs.specs.Amounts.{Lawful}
use Rattle.costs.specs.Measures.{ticks_ops, memory_ops}
use Rattle.costs.specs.Same.{same_ticks}

-- the laws of ticks: the monoid laws of the saturating sum, and those of the order
pub ticks_lawful : Lawful ticks_ops
ticks_lawful = record {
  associative = λ a b c. same_ticks _ _ (omega arith);
  commutative = λ a b. same_ticks _ _ (omega arith);
  neutral = λ a. same_ticks _ _ (omega arith);
  reflexive = search rules;
  transitive = search rules;
  antisymmetric = λ a b h k. same_ticks _ _ (grind arith);
  least = search rules;
  monotone = search rules;
  higher_left = search rules;
  higher_right = search rules;
  higher_least = search rules;
}

-- those of memory
pub memory_lawful : Lawful memory_ops
memory_lawful = search rules

-- four bytes and two are 1 to 8
pub four_bytes : (1 ≤ 4) × (4 ≤ 8)
four_bytes = (omega arith, omega arith)

pub two_bytes : (1 ≤ 2) × (2 ≤ 8)
two_bytes = (omega arith, omega arith)

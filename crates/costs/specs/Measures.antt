-- The two measures: ticks and memory. Assumes nothing.
use Rattle.std.specs.Prelude.{ℕ, ◌+◌, ◌*◌, min, max, List, fold, nat_le}
use Rattle.std.proofs.Common.{arith}
use Rattle.costs.specs.Amounts.{Amounts}
use Rattle.costs.specs.declared.ticks.Ticks.{Ticks}
use Rattle.costs.specs.declared.memory.Memory.{Memory}

-- the number that bytes stand for, the first byte highest
abbrev pub number : List ℕ → ℕ
number bs = fold (λ n b. n * 256 + b) 0 bs

-- an amount of n ticks; 4,294,967,295 stands for that many and for all above, which means over
abbrev pub ticks : ℕ → Ticks
ticks n = record { value = min n 4294967295; fits = omega arith }

-- more ticks than can be told
abbrev pub over : Ticks
over = ticks 4294967295

-- ticks add up, and stay at 4,294,967,295 once they reach it
abbrev pub ticks_ops : Amounts Ticks
ticks_ops = record {
  zero = ticks 0;
  plus = λ a b. ticks (a.value + b.value);
  covers = λ a b. nat_le b.value a.value;
  higher = λ a b. ticks (max a.value b.value);
}

-- the ticks that four bytes stand for
abbrev pub ticks_meant : List ℕ → Ticks
ticks_meant bs = ticks (number bs)

-- an amount of n bytes in use
abbrev pub memory : ℕ → Memory
memory n = record { value = n }

-- the sum of two is the greater: what is given back is used again
abbrev pub memory_ops : Amounts Memory
memory_ops = record {
  zero = memory 0;
  plus = λ a b. memory (max a.value b.value);
  covers = λ a b. nat_le b.value a.value;
  higher = λ a b. memory (max a.value b.value);
}

-- the bytes in use that two bytes stand for
abbrev pub memory_meant : List ℕ → Memory
memory_meant bs = memory (number bs)

-- Products of lengths, and places. Assumes nothing.
pub use Rattle.costs.proofs.Interface.{length_list_at}
use Rattle.std.proofs.Common.{ℕ, ◌*◌, ◌<◌, ◌≤◌, List, length, get_or, ⊎_elim, mul-le-mul, arith}
use Rattle.std.proofs.lemmas.List.{get_or_past}
use Rattle.std.proofs.str.Laws.{order}

pub at_most : (a b : ℕ) → a ≤ 16 → b ≤ 16 → a * b ≤ 256
at_most a b p q = mul-le-mul p q

-- what has a length is one of the lists
pub get_or_within : (lens : List ℕ) (k : ℕ) → 1 ≤ get_or lens k 0 → k < length lens
get_or_within lens k some = ⊎_elim (λ below. below) (λ above. absurd (omega (arith, get_or_past lens k 0 above))) (order k (length lens))

-- Ticks, counts and entries are equal where their numbers are. Assumes nothing.
use Rattle.std.specs.Prelude.{◌≡◌, ℕ, ◌^◌, ◌<◌, length, slice_index}
use Rattle.std.proofs.Common.{◌∙◌, sym, arith}
use mathlib.Core.HLevel.{is_prop→PathP, Π_prop}
use Rattle.std.proofs.Math.Bridge.{le_prop}
use Rattle.std.proofs.Math.Nat.{ℕ_set}
use Rattle.std.proofs.lemmas.List.{ext_get_or}
use Rattle.costs.specs.declared.ticks.Ticks.{Ticks}
use Rattle.costs.specs.declared.counts.Counts.{Counts}
use Rattle.costs.specs.declared.entry.Entry.{Entry}

pub same_ticks : (a b : Ticks) → a.value ≡ b.value → a ≡ b
same_ticks a b e = λ i. record { value = e i; fits = is_prop→PathP (λ k. e k < 2 ^ 32) (λ k. le_prop) a.fits b.fits i }

pub same_lists : (a b : Counts) → a.at ≡ b.at → a ≡ b
same_lists a b e = λ i. record {
  at = e i;
  eight = is_prop→PathP (λ k. length (e k) ≡ 8) (λ k. ℕ_set _ _) a.eight b.eight i;
  bytes = is_prop→PathP (λ k. (j : ℕ) → slice_index (e k) j < 256) (λ k. Π_prop (λ j. le_prop)) a.bytes b.bytes i;
}

-- counts are equal where they are at each output
pub same_counts : (a b : Counts) → ((k : ℕ) → k < 8 → slice_index a.at k ≡ slice_index b.at k) → a ≡ b
same_counts a b h = same_lists a b (ext_get_or 0 a.at b.at (a.eight ∙ sym b.eight) (λ k l. h k (omega arith)))

-- entries are equal where their amounts and counts are
pub same_entries : {M : Type 0} (a b : Entry M) → a.amount ≡ b.amount → a.counts ≡ b.counts → a ≡ b
same_entries a b p q = λ i. record { amount = p i; counts = q i }

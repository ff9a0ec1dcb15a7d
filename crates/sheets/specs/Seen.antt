-- The grammar by what the check remembers. Assumes nothing.
use Rattle.std.specs.Prelude.{◌≡◌, ℕ, zero, suc, ◌+◌, Bool, true, false, cond, ◌&&◌, List, length, replicate, Some, None, Option, ◌==◌, nat_le, nat_lt, slice_index, slice_set}
use Rattle.sheets.specs.Frames.{Raw}
use Rattle.sheets.specs.Grammar.{byte, heads_of, first_is, belongs_to, fits_of, most_of}
use Rattle.sheets.specs.Tags.{kind_number}
use Rattle.sheets.specs.declared.seen.Seen.{Seen}

abbrev pub lower_in : Seen → ℕ → Bool
lower_in s t =
    cond (t == 3) (nat_le 1 (slice_index s.counts 2))
    (cond (t == 4) (nat_le 1 (slice_index s.counts 2) && nat_le 1 (slice_index s.counts 3))
    (cond (t == 7) (nat_le 1 (slice_index s.counts 6)) true))

abbrev pub room_in : Seen → Raw → Bool
room_in s f =
    cond (f.tag == 5)
    (first_is f.content (λ e. cond (nat_lt e s.inputs) (nat_lt (slice_index s.entries e) 16) true))
    (cond (nat_lt f.tag 8) (nat_lt (slice_index s.counts f.tag) (most_of f.tag)) false)

abbrev pub allows_in : ℕ → Seen → Raw → Bool
allows_in w s f =
    belongs_to (kind_number s.kind) f.tag && fits_of w s.outputs f.tag (length f.content)
    && nat_le s.last f.tag && lower_in s f.tag && room_in s f

-- each of the first n counts is above zero
abbrev pub each_in : ℕ → List ℕ → Bool
each_in zero es = true
each_in (suc n) es = nat_le 1 (slice_index es n) && each_in n es

abbrev pub complete_in : Seen → Bool
complete_in s =
    cond (kind_number s.kind == 1) (nat_le 1 (slice_index s.counts 2) && nat_le 1 (slice_index s.counts 3))
    (cond (kind_number s.kind == 2) (each_in s.inputs s.entries)
    (nat_le 1 (slice_index s.counts 6)))

abbrev pub more_at : List ℕ → ℕ → List ℕ
more_at xs i = slice_set xs i (slice_index xs i + 1)

-- n remembers one field more than s
pub record Noted (s : Seen) (f : Raw) (n : Seen) : Type 0 where
  pub kind : n.kind ≡ s.kind
  pub inputs : n.inputs ≡ s.inputs
  pub outputs : n.outputs ≡ s.outputs
  pub last : n.last ≡ f.tag
  pub counts : n.counts ≡ cond (f.tag == 5) s.counts (more_at s.counts f.tag)
  pub entries : n.entries ≡ cond (f.tag == 5 && nat_lt (byte f 0) s.inputs) (more_at s.entries (byte f 0)) s.entries

abbrev pub Started : Raw → Option Seen → Type 0
Started f None = heads_of f ≡ false
Started f (Some s) = (heads_of f ≡ true) × (kind_number s.kind ≡ byte f 0) × (s.inputs ≡ byte f 1) × (s.outputs ≡ byte f 2) × (s.last ≡ 1)
    × (s.counts ≡ replicate 8 0) × (s.entries ≡ replicate 8 0) × (length f.content ≡ 3)

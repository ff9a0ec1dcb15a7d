-- Ways through a graph, and circles. Assumes nothing.
use Rattle.std.specs.Prelude.{◌≡◌, ℕ, zero, suc}

-- a way of n steps from s to t
abbrev pub Way : (ℕ → ℕ → Type 0) → ℕ → ℕ → ℕ → Type 0
Way leads zero s t = s ≡ t
Way leads (suc n) s t = (d : ℕ) × (leads s d × Way leads n d t)

-- from s there are ways of every length, so that one comes round again
abbrev pub Endless : (ℕ → ℕ → Type 0) → ℕ → Type 0
Endless leads s = (n : ℕ) → (t : ℕ) × Way leads n s t

-- no way of one step or more leads from a node back to it
abbrev pub NoCircle : (ℕ → Type 0) → (ℕ → ℕ → Type 0) → Type 0
NoCircle Node leads = (s : ℕ) → Node s → (n : ℕ) → Way leads (suc n) s s → ⊥

-- What a composite block does on an event, and what it costs, over any runs beneath. Assumes nothing.
use Rattle.std.specs.Prelude.{ℕ, zero, suc, List, [], ◌∷◌, ◌++◌}
use Rattle.std.specs.List.{flat_map}
use Rattle.costs.specs.Amounts.{Amounts}
use Rattle.costs.specs.Runs.{Sent, none_sent, once_sent, both_sent}
use Rattle.sheets.specs.declared.words.Connection.{Connection}
use Rattle.sheets.specs.declared.words.End.{End}
use Rattle.sheets.specs.declared.words.End.TheVariants.{Outside, Inside}
use Rattle.networks.specs.Networks.{targets, outputs}

-- a list so many times after itself
abbrev pub repeated : {X : Type 0} → ℕ → List X → List X
repeated zero xs = []
repeated (suc n) xs = xs ++ repeated n xs

-- the arrivals that instance i causes by sending each output o of os `ns o` times: every connection from it is followed
abbrev pub arrivals : List Connection → ℕ → Sent → List ℕ → List End
arrivals cs i ns os = flat_map (λ o. repeated (ns o) (targets cs (Inside i o))) os

-- the arrivals still to be served are served, at that amount, with so many arrivals at each output outside.
-- An arrival outside is counted; one at an instance starts one run of its block, and what that sends takes its place.
pub data Served {M : Type 0} (ops : Amounts M) (cs : List Connection) (Beneath : ℕ → ℕ → M → Sent → Type 0) : List End → M → Sent → Type 0 where
  nothing_left : Served ops cs Beneath [] ops.zero none_sent
  arrives_outside : (p : ℕ) (rest : List End) (a : M) (ns : Sent) → Served ops cs Beneath rest a ns → Served ops cs Beneath (Outside p ∷ rest) a (both_sent (once_sent p) ns)
  arrives_inside : (i f : ℕ) (rest : List End) (a : M) (ns : Sent) (b : M) (ms : Sent) → Beneath i f a ns → Served ops cs Beneath (arrivals cs i ns outputs ++ rest) b ms
      → Served ops cs Beneath (Inside i f ∷ rest) (ops.plus a b) ms

-- a run of the composite on its event e follows every connection from the event; it is finite
abbrev pub Run : {M : Type 0} → Amounts M → List Connection → (ℕ → ℕ → M → Sent → Type 0) → ℕ → M → Sent → Type 0
Run ops cs Beneath e a ns = Served ops cs Beneath (targets cs (Outside e)) a ns

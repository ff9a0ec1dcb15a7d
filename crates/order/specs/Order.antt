-- The order in which the nodes of a graph are worked: always the lowest whose ways all lead to worked nodes. Assumes nothing.
use Rattle.std.specs.Prelude.{◌≡◌, ℕ, ◌+◌, ◌<◌, ◌≤◌, Bool, true, false, ◌⊎◌, List, [], ◌∷◌, Option, MatchOption, length, take, slice_index, slice_index_or}
use Rattle.std.specs.List.{ContainsAt as Has}

-- P holds of some element
abbrev pub Any : {X : Type 0} → (X → Type 0) → List X → Type 0
Any P [] = ⊥
Any P (x ∷ xs) = P x ⊎ Any P xs

-- node t is marked
abbrev pub Marked : List Bool → ℕ → Type 0
Marked marks t = slice_index_or marks t false ≡ true

-- of the numbers below n, those of which P holds
abbrev pub Below : ℕ → (ℕ → Type 0) → ℕ → Type 0
Below n P k = (k < n) × P k

-- the lowest node of which P does not hold, where there is one, and else that P holds of each
abbrev pub LowestOrNone : (ℕ → Type 0) → (ℕ → Type 0) → Option ℕ → Type 0
LowestOrNone Node P found = MatchOption found ((t : ℕ) → Node t → P t) (λ s. Node s × ((P s → ⊥) × ((t : ℕ) → t < s → Node t → P t)))

-- all ways of s lead to nodes of which P holds
abbrev pub Ready : (ℕ → ℕ → Type 0) → (ℕ → Type 0) → ℕ → Type 0
Ready leads P s = (d : ℕ) → leads s d → P d

-- a way of s leads to the node d, of which P does not hold
pub record Barred (Node : ℕ → Type 0) (leads : ℕ → ℕ → Type 0) (P : ℕ → Type 0) (s d : ℕ) : Type 0 where
  pub node : Node d
  pub way : leads s d
  pub unmet : P d → ⊥

-- a graph: which numbers are its nodes, and which node leads to which
module _ (Node : ℕ → Type 0) (leads : ℕ → ℕ → Type 0) where
  -- s is the lowest unworked node whose ways all lead to worked ones
  pub record Next (Worked : ℕ → Type 0) (s : ℕ) : Type 0 where
    pub node : Node s
    pub unworked : Worked s → ⊥
    pub ready : Ready leads Worked s
    pub lowest : (t : ℕ) → t < s → Node t → (Worked t → ⊥) → Ready leads Worked t → ⊥

  -- each unworked node has a way to an unworked one, so none is next
  abbrev pub Stuck : (ℕ → Type 0) → Type 0
  Stuck Worked = (t : ℕ) → Node t → (Worked t → ⊥) → (d : ℕ) × Barred Node leads Worked t d

  -- the next node, where there is one, and else that none is
  abbrev pub NextOrNone : (ℕ → Type 0) → Option ℕ → Type 0
  NextOrNone Worked found = MatchOption found (Stuck Worked) (Next Worked)

  -- the nodes ws were worked in that order, each the next one at its turn
  abbrev pub Order : List ℕ → Type 0
  Order ws = (k : ℕ) → k < length ws → Next (Has (take k ws)) (slice_index ws k)

  -- every node can be worked, in the order ws
  pub record Complete (ws : List ℕ) : Type 0 where
    pub order : Order ws
    pub all : (t : ℕ) → Node t → Has ws t

  -- s is the lowest node that cannot be worked
  pub record Unworkable (s : ℕ) : Type 0 where
    pub ws : List ℕ
    pub order : Order ws
    pub none : Stuck (Has ws)
    pub node : Node s
    pub unworked : Has ws s → ⊥
    pub lowest : (t : ℕ) → t < s → Node t → Has ws t

  -- the first k rows hold the order of all nodes
  pub record Planned (rows : List ℕ) (k : ℕ) : Type 0 where
    pub within : k ≤ length rows
    pub complete : Complete (take k rows)

-- the marks are those of the nodes ws
abbrev pub MarksOf : List Bool → List ℕ → Type 0
MarksOf marks ws = (t : ℕ) → (Marked marks t → Has ws t) × (Has ws t → Marked marks t)

-- how many nodes are not marked
abbrev pub falses : List Bool → ℕ
falses [] = 0
falses (true ∷ bs) = falses bs
falses (false ∷ bs) = 1 + falses bs

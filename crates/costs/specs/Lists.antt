-- Lists of entries: joining, and what every reducer owes. Assumes nothing.
use Rattle.std.specs.Prelude.{◌≡◌, ℕ, ◌≤◌, true, ◌⊎◌, List, [], ◌∷◌, map, length, take, drop, fold}
use Rattle.std.specs.List.{flat_map}
use Rattle.costs.specs.Amounts.{Amounts}
use Rattle.costs.specs.Entries.{entry_ops}
use Rattle.costs.specs.declared.entry.Entry.{Entry}

-- x stands in the list
abbrev pub Among : {X : Type 0} → X → List X → Type 0
Among x [] = ⊥
Among x (y ∷ ys) = (y ≡ x) ⊎ Among x ys

-- a list has 1 to 16 entries
abbrev pub Sized : {X : Type 0} → List X → Type 0
Sized xs = (1 ≤ length xs) × (length xs ≤ 16)

module _ {X : Type 0} (ops : Amounts X) where
  -- the sums of each of xs, in order, with each of ys, in order
  abbrev pub sums : List X → List X → List X
  sums xs ys = flat_map (λ x. map (ops.plus x) ys) xs

  -- the merged one: the higher of all, so of entries the highest amount and the greatest count of each output
  unfoldable pub merged : List X → X
  merged xs = fold ops.higher ops.zero xs

  -- some element of the list covers x
  pub record CoveredBy (ys : List X) (x : X) : Type 0 where
    pub one : X
    pub listed : Among one ys
    pub covers : ops.covers one x ≡ true

  -- what a reducer may make of xs: at least one and no more than were given; each given one is covered by
  -- a resulting one, and each resulting one by the merged one
  pub record Meaning (xs ys : List X) : Type 0 where
    pub some : 1 ≤ length ys
    pub fewer : length ys ≤ length xs
    pub covered : (x : X) → Among x xs → CoveredBy ys x
    pub bounded : (y : X) → Among y ys → ops.covers (merged xs) y ≡ true

module _ {X : Type 0} where
  -- each result is one of the given
  abbrev pub Selects : (List X → List X → Type 0) → Type 0
  Selects gives = (given result : List X) → gives given result → (x : X) → Among x result → Among x given

  -- there is one result at most
  abbrev pub Functional : (List X → List X → Type 0) → Type 0
  Functional gives = (given one other : List X) → gives given one → gives given other → one ≡ other

  -- the relation of a reducing function
  abbrev pub By : (List X → List X) → List X → List X → Type 0
  By f given result = result ≡ f given

  -- no other result than what the function says
  abbrev pub Computes : (List X → List X → Type 0) → (List X → List X) → Type 0
  Computes gives f = (given result : List X) → gives given result → result ≡ f given

-- what a reducer owes of 1 to 1,024 given entries
abbrev pub Sound : {M : Type 0} → Amounts M → (List (Entry M) → List (Entry M) → Type 0) → Type 0
Sound {M} ops gives = (given result : List (Entry M)) → 1 ≤ length given → length given ≤ 1024 → gives given result → Meaning (entry_ops ops) given result

-- of the rows, the first r are `out`, and the others are as they were
pub record Written {X : Type 0} (before after : List X) (r : ℕ) (out : List X) : Type 0 where
  pub front : take r after ≡ out
  pub rest : drop r after ≡ drop r before

-- the first r rows are a result for what was given; rows past as many as were given are as they were
pub record Reduced {X : Type 0} (gives : List X → List X → Type 0) (given before after : List X) (r : ℕ) : Type 0 where
  pub within : r ≤ length before
  pub result : gives given (take r after)
  pub rest : drop (length given) after ≡ drop (length given) before

-- Places, their numbers, and the targets of sources. Assumes nothing.
use Rattle.std.proofs.Common.{◌≡◌, ℕ, ◌+◌, ◌*◌, ◌/◌, ◌%◌, ◌<◌, ◌≤◌, List, [], ◌∷◌, sym, ap, ◌∙◌, subst, arith}
use Rattle.std.specs.List.{AllByRecursion}
use Rattle.std.proofs.ByRecursion.{All-weaker}
use Rattle.std.proofs.lemmas.Bool.{cond_both}
use Rattle.sheets.specs.declared.words.Connection.{Connection}
use Rattle.sheets.specs.declared.words.End.{End}
use Rattle.sheets.specs.declared.words.End.TheVariants.{Inside}
use Rattle.networks.specs.Networks.{same, targets, Network, Place, Target, Named, Node}

pub all_targets : (P : End → Type 0) (cs : List Connection) (s : End) → AllByRecursion (λ c. P c.target) cs → AllByRecursion P (targets cs s)
all_targets P [] s all = tt
all_targets P (c ∷ cs) s all =
    let rest = all_targets P cs s all.1 in
    cond_both (same c.source s) (c.target ∷ targets cs s) (targets cs s) (AllByRecursion P) (λ _. (all.0, rest)) (λ _. rest)

-- a number of a place is the place's
pub whole : (d : ℕ) → 8 * (d / 8) + d % 8 ≡ d
whole d = omega arith

module _ (net : Network) (named : Named net) where
  pub named_targets : AllByRecursion (λ c. Target net c.target) net.connections
  named_targets = All-weaker _ _ (λ c h. h.target) net.connections named

  pub source_targets : (s : End) → AllByRecursion (Target net) (targets net.connections s)
  source_targets s = all_targets (Target net) net.connections s named_targets

module _ (net : Network) (narrow : (i : ℕ) → i < net.instances → (net.faces i).inputs ≤ 8) where
  pub event_low : (i f : ℕ) → Place net i f → f < 8
  event_low i f place = omega (arith, place.1, narrow i place.0)

  -- what holds of the number of a place holds of the place
  module _ (i f : ℕ) (place : Place net i f) where
    pub place_instance : (8 * i + f) / 8 ≡ i
    place_instance = let low = event_low i f place in omega arith

    pub place_event : (8 * i + f) % 8 ≡ f
    place_event = let low = event_low i f place in omega arith

    pub place_end : Inside ((8 * i + f) / 8) ((8 * i + f) % 8) ≡ Inside i f
    place_end = ap (λ a. Inside a ((8 * i + f) % 8)) place_instance ∙ ap (Inside i) place_event

    pub at_place : (P : ℕ → ℕ → Type 0) → P ((8 * i + f) / 8) ((8 * i + f) % 8) → P i f
    at_place P h = subst (λ b. P i b) place_event (subst (λ a. P a ((8 * i + f) % 8)) place_instance h)

    pub of_place : (P : ℕ → ℕ → Type 0) → P i f → P ((8 * i + f) / 8) ((8 * i + f) % 8)
    of_place P h = subst (λ a. P a ((8 * i + f) % 8)) (sym place_instance) (subst (λ b. P i b) (sym place_event) h)

  pub place_node : (i f : ℕ) → Place net i f → Node net (8 * i + f)
  place_node i f place = of_place i f place (Place net) place

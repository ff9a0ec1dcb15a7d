-- What a formed card promises of runs and of the plain function, for every measure and reducer. Assumes nothing.
use Rattle.std.proofs.Common.{ℕ, List, IfOk, Ok, Err, Result, sym, subst, inl, inr, arith, MatchResult}
use Rattle.costs.specs.Amounts.{Amounts, Lawful}
use Rattle.costs.specs.Lists.{Sound, Selects}
use Rattle.costs.specs.Runs.{Sent}
use Rattle.costs.specs.declared.entry.Entry.{Entry}
use Rattle.networks.specs.declared.refusal.Refusal.{Refusal}
use Rattle.networks.specs.Networks.{Network, Given}
use Rattle.networks.specs.Evaluation.{stops}
use Rattle.networks.specs.Refusals.{place, Carded, Unworked, TooLongIn}
use Rattle.networks.specs.Promises.{Covers, Attains, Evaluates, Evaluated}
use Rattle.networks.proofs.Covering.{network_covers}
use Rattle.networks.proofs.Attaining.{network_attained}
use Rattle.networks.proofs.Evaluating.{card_evaluates, place_evaluates, event_evaluates}

module _ {M : Type 0} {ops : Amounts M} {gives : List (Entry M) → List (Entry M) → Type 0} (laws : Lawful ops) (sound : Sound ops gives)
    (net : Network) (card : ℕ → ℕ → List (Entry M)) (given : Given net card) (lists : List ℕ → ℕ → List (Entry M)) where
  -- the answer of the working
  abbrev Answered : Result (List ℕ) Refusal → Type 0
  Answered r = MatchResult r (λ lens. Carded ops gives net card (lists lens)) (Unworked ops gives net card)

  pub covers_all : (Runs : ℕ → ℕ → M → Sent → Type 0) (r : Result (List ℕ) Refusal) → Answered r → IfOk r (λ lens. Covers ops net card Runs (lists lens))
  covers_all Runs (Ok lens) h = network_covers laws sound net given.outputs card Runs given.named given.fit h.none_full (lists lens) h.formed
  covers_all Runs (Err e) h = tt

  pub attains_all : (Runs : ℕ → ℕ → M → Sent → Type 0) (r : Result (List ℕ) Refusal) → Answered r → IfOk r (λ lens. Selects gives → Attains ops net card Runs (lists lens))
  attains_all Runs (Ok lens) h = λ selects. network_attained laws selects net given.outputs card Runs given.named given.fit h.none_full (lists lens) h.formed
  attains_all Runs (Err e) h = tt

  pub evaluates_all : (r : Result (List ℕ) Refusal) → Answered r → Evaluated ops gives net card lists r
  evaluates_all (Ok lens) h = card_evaluates ops gives net given.outputs card given.named given.fit.narrow (lists lens) h.formed
  evaluates_all (Err e) (inl h) = λ ten. absurd (omega (arith, h.number_is, ten))
  evaluates_all (Err e) (inr (w, inl h)) = λ ten. absurd (omega (arith, h.number_is, ten))
  evaluates_all (Err e) (inr (w, inr (none, h))) = λ ten. too_long e h.place_is
    where
      too_long : (e : Refusal) → TooLongIn ops gives net card (place e) → Evaluates ops gives net card (stops (place e))
      too_long e (inl t) = place_evaluates ops gives net given.outputs card given.named given.fit.narrow (place e) t
      too_long e (inr (d, (is, t))) = subst (λ m. Evaluates ops gives net card (stops m)) (sym is) (event_evaluates ops gives net given.outputs card given.named given.fit.narrow d t)

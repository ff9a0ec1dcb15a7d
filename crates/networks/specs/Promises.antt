-- What is shown of a composite's card: in the words of runs, and by the plain function. Assumes nothing.
use Rattle.std.specs.Prelude.{◌≡◌, ℕ, zero, suc, ◌+◌, ◌<◌, List, [], ◌∷◌, Ok, Err, Result}
use Rattle.costs.specs.Amounts.{Amounts}
use Rattle.costs.specs.Lists.{Computes}
use Rattle.costs.specs.Runs.{Sent, CoversRuns, AreRuns}
use Rattle.costs.specs.declared.entry.Entry.{Entry}
use Rattle.networks.specs.declared.refusal.Refusal.{Refusal}
use Rattle.networks.specs.Networks.{Network, Place, WorkedIn}
use Rattle.networks.specs.Refusals.{number, place}
use Rattle.networks.specs.Runs.{Run}
use Rattle.networks.specs.Evaluation.{Outcome, made, stops, network_card}

module _ {M : Type 0} (ops : Amounts M) (net : Network) (card : ℕ → ℕ → List (Entry M)) (Beneath : ℕ → ℕ → M → Sent → Type 0) (lists : ℕ → List (Entry M)) where
  -- where the cards beneath cover the runs beneath, each event's list covers every finite run that the event starts
  abbrev pub Covers : Type 0
  Covers = ((i f : ℕ) → Place net i f → CoversRuns ops (card i f) (Beneath i f)) → (e : ℕ) → e < net.inputs → CoversRuns ops (lists e) (Run ops net.connections Beneath e)

  -- where each entry beneath is a run's, each entry of an event's list is that of a run
  abbrev pub Attains : Type 0
  Attains = ((i f : ℕ) → Place net i f → AreRuns (card i f) (Beneath i f)) → (e : ℕ) → e < net.inputs → AreRuns (lists e) (Run ops net.connections Beneath e)

-- the lists of n events from event e on
abbrev pub lists_from : {X : Type 0} → (ℕ → List X) → ℕ → ℕ → List (List X)
lists_from lists zero e = []
lists_from lists (suc n) e = lists e ∷ lists_from lists n (e + 1)

module _ {M : Type 0} (ops : Amounts M) (gives : List (Entry M) → List (Entry M) → Type 0) (net : Network) (card : ℕ → ℕ → List (Entry M)) where
  -- where the reducer's relation is that of the function f, what came of it is what the plain function says, ws being the working order of all places
  abbrev pub Evaluates : Outcome (Entry M) → Type 0
  Evaluates o = (f : List (Entry M) → List (Entry M)) → Computes gives f → (ws : List ℕ) → WorkedIn net card ws → o ≡ network_card ops f net card ws

  -- by the answer: the card that was made, or the place of refusal 10; the other refusals form no list
  abbrev pub Evaluated : (List ℕ → ℕ → List (Entry M)) → Result (List ℕ) Refusal → Type 0
  Evaluated lists (Ok lens) = Evaluates (made (lists_from (lists lens) net.inputs 0))
  Evaluated lists (Err e) = number e ≡ 10 → Evaluates (stops (place e))

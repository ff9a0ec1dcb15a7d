-- The worked cases of networks, from the rules. Assumes nothing.
use Rattle.std.proofs.Common.{◌≡◌, ℕ, zero, suc, ◌<◌, List, [], ◌∷◌, refl, ap, ◌∙◌, subst, arith}
use Rattle.costs.specs.Entries.{entry_ops}
use Rattle.costs.specs.Lists.{By, merged}
use Rattle.costs.specs.Measures.{ticks_ops}
use Rattle.costs.specs.Reducers.{kept, merged_alone}
use Rattle.costs.specs.declared.entry.Entry.{Entry}
use Rattle.costs.specs.declared.ticks.Ticks.{Ticks}
use Rattle.costs.proofs.Interface.{computes_by}
use Rattle.costs.specs.Same.{same_ticks, same_lists, same_entries}
use Rattle.networks.specs.Forming.{Formation, list, long}
use Rattle.networks.specs.Networks.{outputs, Place}
use Rattle.networks.specs.Cards.{PlaceList, EventList, Formed, Card}
use Rattle.networks.specs.Evaluation.{Outcome, made, stops, place_list, event_list, network_card}
use Rattle.networks.proofs.Evaluating.{card_evaluates}
use Rattle.specimens.specs.CostCases.{entry}
use Rattle.specimens.specs.NetworkCases.{two, two_cards, NetworkCases}
use Rattle.specimens.proofs.NetworkForms.{place_forms, event_forms}
use Rattle.specimens.proofs.NetworkOrder.{narrow, named, ws, worked_in}

-- lists of entries are equal where their numbers are
abbrev Same : List (Entry Ticks) → List (Entry Ticks) → Type 0
Same [] [] = Unit {0}
Same [] (y ∷ ys) = ⊥
Same (x ∷ xs) [] = ⊥
Same (x ∷ xs) (y ∷ ys) = (x.amount.value ≡ y.amount.value) × ((x.counts.at ≡ y.counts.at) × Same xs ys)

same_list : (xs ys : List (Entry Ticks)) → Same xs ys → xs ≡ ys
same_list [] [] h = refl
same_list [] (y ∷ ys) h = absurd h
same_list (x ∷ xs) [] h = absurd h
same_list (x ∷ xs) (y ∷ ys) h = ap (λ e. e ∷ xs) (same_entries x y (same_ticks x.amount y.amount h.0) (same_lists x.counts y.counts h.1.0)) ∙ ap (λ l. y ∷ l) (same_list xs ys h.1.1)

abbrev SameFormed : Formation (Entry Ticks) → List (Entry Ticks) → Type 0
SameFormed (list xs) ys = Same xs ys
SameFormed long ys = ⊥

same_formed : (o : Formation (Entry Ticks)) (ys : List (Entry Ticks)) → SameFormed o ys → o ≡ list ys
same_formed (list xs) ys h = ap list (same_list xs ys h)
same_formed long ys h = absurd h

-- the first event's list
abbrev first : Outcome (Entry Ticks) → List (Entry Ticks)
first (made []) = []
first (made (xs ∷ more)) = xs
first (stops n) = []

-- what the rules say is what the function says
first_computed : (f : List (Entry Ticks) → List (Entry Ticks)) (lists : ℕ → List (Entry Ticks)) → Card ticks_ops (By f) two two_cards lists → lists 0 ≡ first (network_card ticks_ops f two two_cards ws)
first_computed f lists card = ap first (card_evaluates ticks_ops (By f) two (omega arith) two_cards named narrow lists card f (computes_by f) ws worked_in)

abbrev three : List (Entry Ticks)
three = entry 600 (2 ∷ 0 ∷ []) ∷ entry 400 (2 ∷ 1 ∷ []) ∷ entry 200 (2 ∷ 2 ∷ []) ∷ []

two_kept : (lists : ℕ → List (Entry Ticks)) → Card ticks_ops (By (kept (entry_ops ticks_ops))) two two_cards lists → lists 0 ≡ three
unfolding kept outputs
two_kept lists card = first_computed (kept (entry_ops ticks_ops)) lists card ∙ same_list _ three (refl, (refl, (refl, (refl, (refl, (refl, tt))))))

two_merged : (lists : ℕ → List (Entry Ticks)) → Card ticks_ops (By (merged_alone (entry_ops ticks_ops))) two two_cards lists → lists 0 ≡ entry 600 (2 ∷ 2 ∷ []) ∷ []
unfolding merged merged_alone outputs
two_merged lists card = first_computed (merged_alone (entry_ops ticks_ops)) lists card ∙ same_list _ (entry 600 (2 ∷ 2 ∷ []) ∷ []) (refl, (refl, tt))

abbrev table : ℕ → ℕ → List (Entry Ticks)
table zero f = three
table (suc i) f = two_cards 1 0

abbrev Keeps : List (Entry Ticks) → List (Entry Ticks) → Type 0
Keeps = By (kept (entry_ops ticks_ops))

table_formed : (i f : ℕ) → Place two i f → Formed ticks_ops Keeps two two_cards table i f
unfolding kept outputs
table_formed zero f place = record {
  formed = subst (PlaceList ticks_ops Keeps table two.connections 0 (two_cards 0 f))
      (same_formed (place_list ticks_ops (kept (entry_ops ticks_ops)) table two.connections 0 (two_cards 0 f)) three (refl, (refl, (refl, (refl, (refl, (refl, tt)))))))
      (place_forms ticks_ops (kept (entry_ops ticks_ops)) table two.connections 0 (two_cards 0 f));
  sized = (omega arith, omega arith);
}
table_formed (suc zero) f place = record {
  formed = subst (PlaceList ticks_ops Keeps table two.connections 1 (two_cards 1 f))
      (same_formed (place_list ticks_ops (kept (entry_ops ticks_ops)) table two.connections 1 (two_cards 1 f)) (two_cards 1 0) (refl, (refl, (refl, (refl, tt)))))
      (place_forms ticks_ops (kept (entry_ops ticks_ops)) table two.connections 1 (two_cards 1 f));
  sized = (omega arith, omega arith);
}
table_formed (suc (suc i)) f place = absurd (omega (arith, place.0))

event_formed : (e : ℕ) → e < 1 → EventList ticks_ops Keeps table two.connections e (list three)
unfolding kept
event_formed zero l = subst (EventList ticks_ops Keeps table two.connections 0)
    (same_formed (event_list ticks_ops (kept (entry_ops ticks_ops)) table two.connections 0) three (refl, (refl, (refl, (refl, (refl, (refl, tt)))))))
    (event_forms ticks_ops (kept (entry_ops ticks_ops)) table two.connections 0)
event_formed (suc e) l = absurd (omega arith)

pub network_cases : NetworkCases
network_cases = record {
  two_kept = two_kept;
  two_merged = two_merged;
  two_stands = (
    λ e. three,
    record {
      table = table;
      worked = record { ws = ws; complete = worked_in; places = table_formed };
      events = event_formed;
    },
  );
}

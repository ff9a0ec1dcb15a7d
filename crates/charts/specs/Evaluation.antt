-- The same forming as a plain function of a reducing function. Assumes nothing.
use Rattle.std.specs.Prelude.{ℕ, zero, suc, ◌+◌, cond, List, [], ◌∷◌, ◌++◌, length, nat_le}
use Rattle.std.specs.List.{flat_map}
use Rattle.costs.specs.Amounts.{Amounts}
use Rattle.costs.specs.Entries.{entry_ops}
use Rattle.costs.specs.Lists.{sums}
use Rattle.costs.specs.declared.entry.Entry.{Entry}
use Rattle.sheets.specs.Sheets.{Sheet}
use Rattle.costs.specs.Forming.{Formation, list, long}
use Rattle.charts.specs.Forming.{Outcome, made, stops}
use Rattle.charts.specs.Charts.{state_cost, frees, guarded, served_entries}
use Rattle.charts.specs.Cards.{put, no_lists}

-- reduced, if that has at most 16 entries
abbrev pub reduced : {X : Type 0} → (List X → List X) → List X → Formation X
reduced f xs = cond (nat_le (length (f xs)) 16) (list (f xs)) long

abbrev pub after : {X : Type 0} → Formation X → ℕ → (List X → Outcome X) → Outcome X
after (list xs) p rest = rest xs
after long p rest = stops p

-- the lists of n events from event e on
abbrev pub events_by : {X : Type 0} → (ℕ → Formation X) → ℕ → ℕ → List (List X) → Outcome X
events_by P zero e done = made done
events_by P (suc n) e done = after (P e) (256 + e) (λ xs. events_by P n (e + 1) (done ++ xs ∷ []))

module _ {M : Type 0} (ops : Amounts M) (f : List (Entry M) → List (Entry M)) where
  abbrev pub state_list : (ℕ → List (Entry M)) → Entry M → List ℕ → Formation (Entry M)
  state_list T cost [] = list (cost ∷ [])
  state_list T cost (d ∷ ds) = reduced f (sums (entry_ops ops) (cost ∷ []) (flat_map T (d ∷ ds)))

  abbrev pub event_list : (ℕ → List (Entry M)) → List ℕ → Formation (Entry M)
  event_list T [] = list ((entry_ops ops).zero ∷ [])
  event_list T (d ∷ ds) = reduced f (flat_map T (d ∷ ds))

module _ {M : Type 0} (ops : Amounts M) (meant : List ℕ → M) (f : List (Entry M) → List (Entry M)) (sheet : Sheet) where
  abbrev pub states_by : List ℕ → (ℕ → List (Entry M)) → ((ℕ → List (Entry M)) → Outcome (Entry M)) → Outcome (Entry M)
  states_by [] T rest = rest T
  states_by (s ∷ ss) T rest = after (state_list ops f T (state_cost ops meant sheet s) (frees sheet s)) s (λ xs. states_by ss (put T s xs) rest)

  -- the card of a basic block whose states are worked in the order ws
  abbrev pub basic_card : List ℕ → Outcome (Entry M)
  basic_card ws = states_by ws no_lists (λ T. events_by (λ e. event_list ops f T (guarded sheet e)) sheet.face.inputs 0 [])

  -- the card of a service block
  abbrev pub service_card : Outcome (Entry M)
  service_card = events_by (λ e. reduced f (served_entries meant e sheet.entries)) sheet.face.inputs 0 []

-- What the plain function forms stands in the relation. Assumes nothing.
use Rattle.std.proofs.Common.{ℕ, zero, suc, ◌+◌, leb, List, [], ◌∷◌, ◌++◌, length, refl, inl}
use Rattle.std.specs.List.{flat_map}
use Rattle.std.proofs.lemmas.Bool.{cond_both, leb-true, leb-false}
use Rattle.costs.specs.Amounts.{Amounts}
use Rattle.costs.specs.Entries.{entry_ops}
use Rattle.costs.specs.Forming.{Formation, list, long, Reduces}
use Rattle.costs.specs.Lists.{sums, By}
use Rattle.costs.specs.declared.entry.Entry.{Entry}
use Rattle.sheets.specs.Sheets.{Sheet}
use Rattle.charts.specs.Forming.{Outcome, After}
use Rattle.charts.specs.Charts.{state_cost, frees, guarded}
use Rattle.charts.specs.Cards.{put, no_lists, StateList, EventList, Events, States, BasicCard}
use Rattle.charts.specs.Evaluation.{reduced, after, events_by, state_list, event_list, states_by, basic_card}
use Rattle.charts.proofs.Steps.{after_on}

reduced_forms : {X : Type 0} (f : List X → List X) (xs : List X) → Reduces (By f) xs (reduced f xs)
reduced_forms f xs = cond_both (leb (length (f xs)) 16) (list (f xs)) long (Reduces (By f) xs) (λ e. (refl, leb-true _ _ e)) (λ e. (f xs, (refl, leb-false _ _ e)))

after_forms : {X : Type 0} (P : Formation X → Type 0) (p : ℕ) (Rest : List X → Outcome X → Type 0) (g : Formation X) (rest : List X → Outcome X) → P g → ((xs : List X) → Rest xs (rest xs)) → After P p Rest (after g p rest)
after_forms P p Rest (list xs) rest h more = after_on P p Rest xs h (rest xs) (more xs)
after_forms P p Rest long rest h more = inl (h, refl)

events_forms : {X : Type 0} (P : ℕ → Formation X → Type 0) (g : ℕ → Formation X) → ((e : ℕ) → P e (g e)) → (n e : ℕ) (done : List (List X)) → Events P n e done (events_by g n e done)
events_forms P g each zero e done = refl
events_forms P g each (suc n) e done =
    after_forms (P e) (256 + e) (λ xs. Events P n (e + 1) (done ++ xs ∷ [])) (g e) (λ xs. events_by g n (e + 1) (done ++ xs ∷ [])) (each e) (λ xs. events_forms P g each n (e + 1) (done ++ xs ∷ []))

module _ {M : Type 0} (ops : Amounts M) (meant : List ℕ → M) (f : List (Entry M) → List (Entry M)) (sheet : Sheet) where
  state_forms : (T : ℕ → List (Entry M)) (cost : Entry M) (ds : List ℕ) → StateList ops (By f) T cost ds (state_list ops f T cost ds)
  state_forms T cost [] = refl
  state_forms T cost (d ∷ ds) = reduced_forms f (sums (entry_ops ops) (cost ∷ []) (flat_map T (d ∷ ds)))

  event_forms : (T : ℕ → List (Entry M)) (ds : List ℕ) → EventList ops (By f) T ds (event_list ops f T ds)
  event_forms T [] = refl
  event_forms T (d ∷ ds) = reduced_forms f (flat_map T (d ∷ ds))

  states_forms : (Rest : (ℕ → List (Entry M)) → Outcome (Entry M) → Type 0) (rest : (ℕ → List (Entry M)) → Outcome (Entry M)) → ((T : ℕ → List (Entry M)) → Rest T (rest T)) → (ws : List ℕ) (T : ℕ → List (Entry M)) → States ops meant (By f) sheet ws T Rest (states_by ops meant f sheet ws T rest)
  states_forms Rest rest more [] T = more T
  states_forms Rest rest more (s ∷ ss) T =
      after_forms (StateList ops (By f) T (state_cost ops meant sheet s) (frees sheet s)) s (λ xs. States ops meant (By f) sheet ss (put T s xs) Rest)
      (state_list ops f T (state_cost ops meant sheet s) (frees sheet s)) (λ xs. states_by ops meant f sheet ss (put T s xs) rest)
      (state_forms T (state_cost ops meant sheet s) (frees sheet s)) (λ xs. states_forms Rest rest more ss (put T s xs))

  pub basic_forms : (ws : List ℕ) → BasicCard ops meant (By f) sheet ws (basic_card ops meant f sheet ws)
  basic_forms ws =
      states_forms (λ T. Events (λ e. EventList ops (By f) T (guarded sheet e)) sheet.face.inputs 0 []) (λ T. events_by (λ e. event_list ops f T (guarded sheet e)) sheet.face.inputs 0 [])
      (λ T. events_forms (λ e. EventList ops (By f) T (guarded sheet e)) (λ e. event_list ops f T (guarded sheet e)) (λ e. event_forms T (guarded sheet e)) sheet.face.inputs 0 []) ws no_lists

-- Where the reducer computes a function, forming comes to what the plain function says. Assumes nothing.
use Rattle.std.proofs.Common.{◌≡◌, ℕ, zero, suc, ◌+◌, ◌<◌, ◌≤◌, leb, List, [], ◌∷◌, ◌++◌, length, sym, ap, ◌∙◌, subst, inl, inr}
use Rattle.std.specs.List.{flat_map}
use Rattle.std.proofs.lemmas.Bool.{cond-true, cond-false, le-leb, lt-leb}
use Rattle.costs.specs.Amounts.{Amounts}
use Rattle.costs.specs.Entries.{entry_ops}
use Rattle.costs.specs.Lists.{sums, Computes}
use Rattle.costs.specs.declared.entry.Entry.{Entry}
use Rattle.sheets.specs.Sheets.{Sheet}
use Rattle.costs.specs.Forming.{Formation, list, long, Reduces}
use Rattle.charts.specs.Forming.{Outcome, made, stops, After}
use Rattle.charts.specs.Charts.{state_cost, frees, guarded, served_entries}
use Rattle.charts.specs.Cards.{put, no_lists, StateList, EventList, Events, States, BasicCard, ServiceCard}
use Rattle.charts.specs.Evaluation.{reduced, after, events_by, state_list, event_list, states_by, basic_card, service_card}

module _ {X : Type 0} {gives : List X → List X → Type 0} (f : List X → List X) (computes : Computes gives f) where
  reduces_by : (xs : List X) (o : Formation X) → Reduces gives xs o → o ≡ reduced f xs
  reduces_by xs (list ys) (given, few) =
      let is = computes xs ys given in
      sym (cond-true (leb (length (f xs)) 16) (list (f xs)) long (le-leb _ _ (subst (λ l. length l ≤ 16) is few)) ∙ ap list (sym is))
  reduces_by xs long (ys, (given, many)) =
      sym (cond-false (leb (length (f xs)) 16) (list (f xs)) long (lt-leb _ _ (subst (λ l. 16 < length l) (computes xs ys given) many)))

after_by : {X : Type 0} (P : Formation X → Type 0) (p : ℕ) (Rest : List X → Outcome X → Type 0) (g : Formation X) (rest : List X → Outcome X)
    → ((o : Formation X) → P o → o ≡ g) → ((xs : List X) (o : Outcome X) → Rest xs o → o ≡ rest xs) → (o : Outcome X) → After P p Rest o → o ≡ after g p rest
after_by P p Rest g rest first then (made ls) (xs, (h, k)) = then xs (made ls) k ∙ ap (λ v. after v p rest) (first (list xs) h)
after_by P p Rest g rest first then (stops q) (inl (h, is)) = ap stops is ∙ ap (λ v. after v p rest) (first long h)
after_by P p Rest g rest first then (stops q) (inr (xs, (h, k))) = then xs (stops q) k ∙ ap (λ v. after v p rest) (first (list xs) h)

events_are : {X : Type 0} (P : ℕ → Formation X → Type 0) (g : ℕ → Formation X) → ((e : ℕ) (o : Formation X) → P e o → o ≡ g e)
    → (n e : ℕ) (done : List (List X)) (o : Outcome X) → Events P n e done o → o ≡ events_by g n e done
events_are P g each zero e done o h = h
events_are P g each (suc n) e done o h =
    after_by (P e) (256 + e) (λ xs. Events P n (e + 1) (done ++ xs ∷ [])) (g e) (λ xs. events_by g n (e + 1) (done ++ xs ∷ [])) (each e) (λ xs. events_are P g each n (e + 1) (done ++ xs ∷ [])) o h

module _ {M : Type 0} (ops : Amounts M) (meant : List ℕ → M) {gives : List (Entry M) → List (Entry M) → Type 0} (f : List (Entry M) → List (Entry M)) (computes : Computes gives f) (sheet : Sheet) where
  state_is : (T : ℕ → List (Entry M)) (cost : Entry M) (ds : List ℕ) (o : Formation (Entry M)) → StateList ops gives T cost ds o → o ≡ state_list ops f T cost ds
  state_is T cost [] (list xs) h = ap list h
  state_is T cost [] long h = absurd h
  state_is T cost (d ∷ ds) o h = reduces_by f computes (sums (entry_ops ops) (cost ∷ []) (flat_map T (d ∷ ds))) o h

  event_is_list : (T : ℕ → List (Entry M)) (ds : List ℕ) (o : Formation (Entry M)) → EventList ops gives T ds o → o ≡ event_list ops f T ds
  event_is_list T [] (list xs) h = ap list h
  event_is_list T [] long h = absurd h
  event_is_list T (d ∷ ds) o h = reduces_by f computes (flat_map T (d ∷ ds)) o h

  states_are : (Rest : (ℕ → List (Entry M)) → Outcome (Entry M) → Type 0) (rest : (ℕ → List (Entry M)) → Outcome (Entry M)) → ((T : ℕ → List (Entry M)) (o : Outcome (Entry M)) → Rest T o → o ≡ rest T)
      → (ws : List ℕ) (T : ℕ → List (Entry M)) (o : Outcome (Entry M)) → States ops meant gives sheet ws T Rest o → o ≡ states_by ops meant f sheet ws T rest
  states_are Rest rest then [] T o h = then T o h
  states_are Rest rest then (s ∷ ss) T o h =
      after_by (StateList ops gives T (state_cost ops meant sheet s) (frees sheet s)) s (λ xs. States ops meant gives sheet ss (put T s xs) Rest)
      (state_list ops f T (state_cost ops meant sheet s) (frees sheet s)) (λ xs. states_by ops meant f sheet ss (put T s xs) rest)
      (state_is T (state_cost ops meant sheet s) (frees sheet s)) (λ xs. states_are Rest rest then ss (put T s xs)) o h

  -- the card of a basic block is the function's, refusal 10 and its place included
  pub basic_is : (ws : List ℕ) (o : Outcome (Entry M)) → BasicCard ops meant gives sheet ws o → o ≡ basic_card ops meant f sheet ws
  basic_is ws o h =
      states_are (λ T. Events (λ e. EventList ops gives T (guarded sheet e)) sheet.face.inputs 0 []) (λ T. events_by (λ e. event_list ops f T (guarded sheet e)) sheet.face.inputs 0 [])
      (λ T. events_are (λ e. EventList ops gives T (guarded sheet e)) (λ e. event_list ops f T (guarded sheet e)) (λ e. event_is_list T (guarded sheet e)) sheet.face.inputs 0 []) ws no_lists o h

  -- and so is that of a service block
  pub service_is : (o : Outcome (Entry M)) → ServiceCard ops meant gives sheet o → o ≡ service_card ops meant f sheet
  service_is o h =
      events_are (λ e. Reduces gives (served_entries meant e sheet.entries)) (λ e. reduced f (served_entries meant e sheet.entries)) (λ e. reduces_by f computes (served_entries meant e sheet.entries)) sheet.face.inputs 0 [] o h

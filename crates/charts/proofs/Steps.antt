-- Forming one list, from what the rows hold. Assumes nothing.
use Rattle.std.proofs.Common.{◌≡◌, ℕ, ◌+◌, ◌<◌, ◌≤◌, eqb, List, [], ◌∷◌, ◌++◌, length, get_or, drop, sym, refl, ap, ◌∙◌, inl, inr, append_assoc, arith}
use Rattle.std.specs.List.{flat_map}
use Rattle.std.proofs.lemmas.List.{at_drop_more, length-append}
use Rattle.std.proofs.lemmas.Bool.{cond-true, cond-false, eq-eqb, ne_eqb}
use Rattle.costs.specs.Amounts.{Amounts}
use Rattle.costs.specs.Entries.{entry_ops}
use Rattle.costs.specs.Lists.{Among}
use Rattle.costs.specs.declared.entry.Entry.{Entry}
use Rattle.sheets.specs.Sheets.{Served}
use Rattle.costs.specs.Forming.{Formation, list}
use Rattle.charts.specs.Forming.{Outcome, made, stops, After}
use Rattle.charts.specs.Charts.{served_entry, served_entries}
use Rattle.charts.specs.Cards.{StateList, EventList}

-- one list formed, and the rest from there
pub after_on : {X : Type 0} (P : Formation X → Type 0) (p : ℕ) (Rest : List X → Outcome X → Type 0) (xs : List X) → P (list xs) → (o : Outcome X) → Rest xs o → After P p Rest o
after_on P p Rest xs h (made ls) rest = (xs, (h, rest))
after_on P p Rest xs h (stops q) rest = inr (xs, (h, rest))

module _ {M : Type 0} (meant : List ℕ → M) (f : ℕ) (xs : List Served) (i : ℕ) (x : Served) (within : i < length xs) where
  pub serve_hit : (e : Entry M) (before after whole : List (Entry M)) → (get_or xs i x).event ≡ f → e ≡ served_entry meant (get_or xs i x) → after ≡ before ++ e ∷ []
      → before ++ served_entries meant f (drop i xs) ≡ whole → after ++ served_entries meant f (drop (i + 1) xs) ≡ whole
  serve_hit e before after whole hit is more was =
      let rest = served_entries meant f (drop (i + 1) xs) in
      ap (λ l. l ++ rest) more
      ∙ append_assoc before (e ∷ []) rest
      ∙ ap (λ y. before ++ y ∷ rest) is
      ∙ ap (λ l. before ++ l) (sym (at_drop_more (served_entries meant f) xs i x within ∙ cond-true (eqb (get_or xs i x).event f) (served_entry meant (get_or xs i x) ∷ rest) rest (eq-eqb _ _ hit)))
      ∙ was

  pub serve_miss : (before whole : List (Entry M)) → ((get_or xs i x).event ≡ f → ⊥) → before ++ served_entries meant f (drop i xs) ≡ whole → before ++ served_entries meant f (drop (i + 1) xs) ≡ whole
  serve_miss before whole miss was =
      let rest = served_entries meant f (drop (i + 1) xs) in
      ap (λ l. before ++ l) (sym (at_drop_more (served_entries meant f) xs i x within ∙ cond-false (eqb (get_or xs i x).event f) (served_entry meant (get_or xs i x) ∷ rest) rest (ne_eqb _ _ miss))) ∙ was

module _ {M : Type 0} (ops : Amounts M) (gives : List (Entry M) → List (Entry M) → Type 0) (T : ℕ → List (Entry M)) where
  pub state_alone : (cost : Entry M) (ds : List ℕ) (result : List (Entry M)) → ((d : ℕ) → Among d ds → 1 ≤ length (T d)) → length (flat_map T ds) ≡ 0 → result ≡ cost ∷ [] → StateList ops gives T cost ds (list result)
  state_alone cost [] result some none is = is
  state_alone cost (d ∷ ds) result some none is = absurd (omega (arith, some d (inl refl), length-append (T d) (flat_map T ds)))

  pub event_alone : (ds : List ℕ) (result : List (Entry M)) → ((d : ℕ) → Among d ds → 1 ≤ length (T d)) → length (flat_map T ds) ≡ 0 → result ≡ (entry_ops ops).zero ∷ [] → EventList ops gives T ds (list result)
  event_alone [] result some none is = is
  event_alone (d ∷ ds) result some none is = absurd (omega (arith, some d (inl refl), length-append (T d) (flat_map T ds)))

-- Where the reducer computes a function, the working of a sheet comes to one verdict. Assumes nothing.
use Rattle.std.proofs.Common.{◌≡◌, ℕ, ◌≤◌, List, [], get_or, sym, ap, ◌∙◌, subst, ⊎_elim}
use Rattle.std.proofs.lemmas.Bool.{cases_lt}
use Rattle.costs.specs.Lists.{Computes}
use Rattle.costs.specs.declared.entry.Entry.{Entry}
use Rattle.charts.specs.Forming.{Outcome, made, stops}
use Rattle.charts.specs.Refusals.{CardBy, RefusedBy}
use Rattle.charts.specs.declared.refusal.Refusal.{Refusal as ChartRefusal}
use Rattle.charts.specs.declared.refusal.Refusal.TheVariants.{Unnamed, Circle, TooLong}
use Rattle.charts.proofs.Promises.{exact}
use Rattle.networks.specs.Promises.{lists_from}
use Rattle.sheets.specs.Sheets.{Sheet}
use Rattle.sheets.specs.declared.words.Kind.{Kind}
use Rattle.sheets.specs.declared.words.Kind.TheVariants.{Basic, Service, Composite}
use Rattle.library.specs.Books.{Rules}
use Rattle.library.specs.Checks.{ChartStops}
use Rattle.library.specs.Refusals.{Told, by_chart}
use Rattle.library.proofs.Deciding.{unworkable_not, unworkable_one}
use Rattle.library.proofs.Soundness.{get_or_lists}

-- what an outcome says
abbrev lists_in : {X : Type 0} → Outcome X → List (List X)
lists_in (made ls) = ls
lists_in (stops p) = []

abbrev place_in : {X : Type 0} → Outcome X → ℕ
place_in (made ls) = 0
place_in (stops p) = p

abbrev IsMade : {X : Type 0} → Outcome X → Type 0
IsMade (made ls) = Unit {0}
IsMade (stops p) = ⊥

-- the lists of all events are one function's, where numbers past the inputs have none
pub same_cards : {M : Type 0} (n : ℕ) (c d : ℕ → List (Entry M)) → lists_from c n 0 ≡ lists_from d n 0 → ((e : ℕ) → n ≤ e → c e ≡ []) → ((e : ℕ) → n ≤ e → d e ≡ []) → c ≡ d
same_cards n c d same none also = λ i e. at e i
  where
    at : (e : ℕ) → c e ≡ d e
    at e = ⊎_elim (λ low. sym (get_or_lists c n e low) ∙ ap (λ l. get_or l e []) same ∙ get_or_lists d n e low) (λ high. none e high ∙ sym (also e high)) (cases_lt e n)

module _ {M : Type 0} (rules : Rules M) (f : List (Entry M) → List (Entry M)) (computes : Computes rules.gives f) (s : Sheet) where
  -- one outcome of a basic or a service sheet
  outcome_one : (kind : Kind) (o q : Outcome (Entry M)) → CardBy rules.ops rules.meant rules.gives s kind o → CardBy rules.ops rules.meant rules.gives s kind q → o ≡ q
  outcome_one Basic o q g h = exact rules.ops rules.meant s f computes Basic o g g.0 g.1.0 ∙ sym (exact rules.ops rules.meant s f computes Basic q h g.0 g.1.0)
  outcome_one Service o q g h = exact rules.ops rules.meant s f computes Service o g ∙ sym (exact rules.ops rules.meant s f computes Service q h)
  outcome_one Composite o q g h = absurd g

  -- a circle, and a card or a list above 16, exclude each other
  circle_not : (kind : Kind) (state : ℕ) (o : Outcome (Entry M)) → RefusedBy rules.ops rules.meant rules.gives s kind (Circle state) → CardBy rules.ops rules.meant rules.gives s kind o → ⊥
  circle_not Basic state o g h = unworkable_not state h.0 g.0 h.1.0
  circle_not Service state o g h = g.0
  circle_not Composite state o g h = h

  circle_one : (kind : Kind) (j k : ℕ) → RefusedBy rules.ops rules.meant rules.gives s kind (Circle j) → RefusedBy rules.ops rules.meant rules.gives s kind (Circle k) → j ≡ k
  circle_one Basic j k g h = unworkable_one j k g.0 h.0
  circle_one Service j k g h = absurd g.0
  circle_one Composite j k g h = absurd g.0

  refusal_one : (kind : Kind) (d e : ChartRefusal) → RefusedBy rules.ops rules.meant rules.gives s kind d → RefusedBy rules.ops rules.meant rules.gives s kind e → by_chart d ≡ by_chart e
  refusal_one kind (Unnamed p) e g h = absurd g
  refusal_one kind (Circle j) (Unnamed q) g h = absurd h
  refusal_one kind (Circle j) (Circle k) g h = ap (λ n. record { number = 8; level = 2; place = n }) (circle_one kind j k g h)
  refusal_one kind (Circle j) (TooLong q) g h = absurd (circle_not kind j (stops q) g h)
  refusal_one kind (TooLong p) (Unnamed q) g h = absurd h
  refusal_one kind (TooLong p) (Circle k) g h = absurd (circle_not kind k (stops p) h g)
  refusal_one kind (TooLong p) (TooLong q) g h = ap (λ o. record { number = 10; level = 2; place = place_in o }) (outcome_one kind (stops p) (stops q) g h)

  pub chart_stops_one : (kind : Kind) (t u : Told) → ChartStops rules s kind t → ChartStops rules s kind u → t ≡ u
  chart_stops_one kind t u g h = g.as_told ∙ refusal_one kind g.refusal h.refusal g.is h.is ∙ sym h.as_told

  refusal_not : (kind : Kind) (e : ChartRefusal) (ls : List (List (Entry M))) → RefusedBy rules.ops rules.meant rules.gives s kind e → CardBy rules.ops rules.meant rules.gives s kind (made ls) → ⊥
  refusal_not kind (Unnamed p) ls g h = g
  refusal_not kind (Circle j) ls g h = circle_not kind j (made ls) g h
  refusal_not kind (TooLong p) ls g h = subst IsMade (outcome_one kind (made ls) (stops p) h g) tt

  pub chart_stops_apart : (kind : Kind) (t : Told) (ls : List (List (Entry M))) → ChartStops rules s kind t → CardBy rules.ops rules.meant rules.gives s kind (made ls) → ⊥
  chart_stops_apart kind t ls g h = refusal_not kind g.refusal ls g.is h

  pub chart_cards_one : (kind : Kind) (ls ms : List (List (Entry M))) → CardBy rules.ops rules.meant rules.gives s kind (made ls) → CardBy rules.ops rules.meant rules.gives s kind (made ms) → ls ≡ ms
  chart_cards_one kind ls ms g h = ap lists_in (outcome_one kind (made ls) (made ms) g h)

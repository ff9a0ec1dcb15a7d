-- The working comes to what the plain function says. Assumes nothing.
use Rattle.std.proofs.Common.{◌≡◌, ℕ, ◌<◌, ◌≤◌, List, length, sym, ap, ◌∙◌, subst, inl, inr, arith}
use Rattle.costs.specs.declared.entry.Entry.{Entry}
use Rattle.charts.specs.Refusals.{CardBy, RefusedBy, number as chart_number, place as chart_place}
use Rattle.charts.specs.Forming.{stops}
use Rattle.charts.specs.declared.refusal.Refusal.{Refusal as ChartRefusal}
use Rattle.charts.specs.declared.refusal.Refusal.TheVariants.{Unnamed, Circle, TooLong}
use Rattle.charts.proofs.Promises.{exact}
use Rattle.networks.specs.Evaluation.{stops as network_stops}
use Rattle.networks.specs.Networks.{network_of, Named as NamedNetwork}
use Rattle.networks.specs.Promises.{Evaluates}
use Rattle.networks.specs.Refusals.{Unworked, TooLongIn, place as network_place, number as network_number}
use Rattle.networks.specs.declared.beneath.Face.{Face}
use Rattle.networks.specs.declared.refusal.Refusal.{Refusal as NetworkRefusal}
use Rattle.networks.proofs.Evaluating.{card_evaluates, place_evaluates, event_evaluates}
use Rattle.sheets.specs.Form.{Form}
use Rattle.sheets.specs.Sheets.{Sheet}
use Rattle.sheets.specs.declared.words.Kind.{Kind}
use Rattle.sheets.specs.declared.words.Kind.TheVariants.{Basic, Service, Composite}
use Rattle.library.specs.Books.{Rules}
use Rattle.library.specs.Checks.{Blocks, Verdict, turned, fine, faces_beneath, cards_beneath, NamedBy, Named, StopsBy, ChartStops, FormedBy, Working}
use Rattle.library.specs.Exactness.{ExactChart, ExactCard, ExactStop, Exactly}
use Rattle.library.specs.Refusals.{Told}

module _ {M : Type 0} (rules : Rules M) (faces : ℕ → Face) (cards : ℕ → ℕ → List (Entry M)) (s : Sheet) {w : ℕ} (form : Form w s) (narrow : (i : ℕ) → i < length s.instances → (faces i).inputs ≤ 8) where
  chart_exact : (kind : Kind) (t : Told) → ChartStops rules s kind t → t.number ≡ 10 → ExactChart rules s kind (stops t.place)
  chart_exact kind t h ten = by h.refusal h.is (ap (λ (x : Told). x.number) h.as_told) (ap (λ (x : Told). x.place) h.as_told)
    where
      by : (e : ChartRefusal) → RefusedBy rules.ops rules.meant rules.gives s kind e → t.number ≡ chart_number e → t.place ≡ chart_place e → ExactChart rules s kind (stops t.place)
      by (Unnamed at) is n p = absurd is
      by (Circle state) is n p = absurd (omega (arith, n, ten))
      by (TooLong at) is n p = λ f computes. exact rules.ops rules.meant s f computes kind (stops t.place) (subst (λ q. CardBy rules.ops rules.meant rules.gives s kind (stops q)) (sym p) is)

  pub network_exact : NamedNetwork (network_of s faces) → (e : NetworkRefusal) → network_number e ≡ 10 → Unworked rules.ops rules.gives (network_of s faces) cards e
      → Evaluates rules.ops rules.gives (network_of s faces) cards (network_stops (network_place e))
  network_exact named e ten (inl h) = absurd (omega (arith, ten, h.number_is))
  network_exact named e ten (inr (able, inl h)) = absurd (omega (arith, ten, h.number_is))
  network_exact named e ten (inr (able, inr (none, h))) = by h.place_is
    where
      by : TooLongIn rules.ops rules.gives (network_of s faces) cards (network_place e) → Evaluates rules.ops rules.gives (network_of s faces) cards (network_stops (network_place e))
      by (inl t) = place_evaluates rules.ops rules.gives (network_of s faces) form.few_outputs cards named narrow (network_place e) t
      by (inr (d, (is, t))) =
          subst (λ n. Evaluates rules.ops rules.gives (network_of s faces) cards (network_stops n)) (sym is) (event_evaluates rules.ops rules.gives (network_of s faces) form.few_outputs cards named narrow d t)

  pub card_exact : (kind : Kind) → NamedBy faces s kind → (card : ℕ → List (Entry M)) → FormedBy rules faces cards s kind card → ExactCard rules faces cards s kind card
  card_exact Basic named card h = λ f computes. exact rules.ops rules.meant s f computes Basic _ h
  card_exact Service named card h = λ f computes. exact rules.ops rules.meant s f computes Service _ h
  card_exact Composite named card h = card_evaluates rules.ops rules.gives (network_of s faces) form.few_outputs cards named.0 narrow card h.formed

  stop_exact : (kind : Kind) → NamedBy faces s kind → (t : Told) → StopsBy rules faces cards s kind t → t.number ≡ 10 → ExactStop rules faces cards s kind t.place
  stop_exact Basic named t h ten = chart_exact Basic t h ten
  stop_exact Service named t h ten = chart_exact Service t h ten
  stop_exact Composite named t h ten =
      subst (λ n. Evaluates rules.ops rules.gives (network_of s faces) cards (network_stops n)) (sym (ap (λ (x : Told). x.place) h.as_told))
      (network_exact named.0 h.refusal (sym (ap (λ (x : Told). x.number) h.as_told) ∙ ten) h.is)

-- of a sheet whose numbers all name something, over blocks of at most eight inputs
pub working_exact : {M : Type 0} (rules : Rules M) (v : Blocks M) (s : Sheet) {w : ℕ} → Form w s → ((i : ℕ) → i < length s.instances → (faces_beneath v s i).inputs ≤ 8) → Named v s
    → (u : Verdict (ℕ → List (Entry M))) → Working rules v s u → Exactly rules v s u
working_exact rules v s form narrow named (turned t) h = stop_exact rules (faces_beneath v s) (cards_beneath v s) s form narrow s.face.kind named t h
working_exact rules v s form narrow named (fine card) h = card_exact rules (faces_beneath v s) (cards_beneath v s) s form narrow s.face.kind named card h.formed

-- What is shown of a card, by its kind. Assumes nothing.
use Rattle.std.proofs.Common.{◌≡◌, ℕ, ◌<◌, List, [], get_or, refl, subst, arith}
use Rattle.costs.specs.Amounts.{Amounts, Lawful}
use Rattle.costs.specs.Lists.{Sound, Selects, Computes}
use Rattle.costs.specs.Runs.{CoversRuns, AreRuns}
use Rattle.costs.specs.declared.entry.Entry.{Entry}
use Rattle.order.specs.Order.{Complete}
use Rattle.sheets.specs.Form.{Form}
use Rattle.sheets.specs.Sheets.{Sheet}
use Rattle.sheets.specs.declared.words.Kind.{Kind}
use Rattle.sheets.specs.declared.words.Kind.TheVariants.{Basic, Service, Composite}
use Rattle.costs.specs.Forming.{list, Reduces}
use Rattle.charts.specs.Forming.{Outcome, made, stops}
use Rattle.charts.specs.Charts.{guarded, served_entries, State, Leads, Named}
use Rattle.charts.specs.Cards.{EventList, Events, BasicCard, ServiceCard}
use Rattle.charts.specs.Runs.{RunBy}
use Rattle.charts.specs.Theorems.{Whole, ExactBy, ExactRefusal}
use Rattle.charts.specs.Refusals.{CardBy, RefusedBy}
use Rattle.charts.specs.declared.refusal.Refusal.{Refusal}
use Rattle.charts.specs.declared.refusal.Refusal.TheVariants.{Unnamed, Circle, TooLong}
use Rattle.order.proofs.Induction.{complete_one}
use Rattle.charts.proofs.Evaluating.{basic_is, service_is}
use Rattle.charts.proofs.Tables.{table_of, events_listed}
use Rattle.charts.proofs.Covering.{event_sized, event_covers}
use Rattle.charts.proofs.Attaining.{event_attains}
use Rattle.charts.proofs.Serving.{service_sized, service_covers, service_attains}

-- all that is shown of the lists
pub record Shown {M : Type 0} (ops : Amounts M) (meant : List ℕ → M) (gives : List (Entry M) → List (Entry M) → Type 0) (sheet : Sheet) (kind : Kind) (ls : List (List (Entry M))) : Type 0 where
  pub whole : Whole ops meant sheet ls
  pub covers : (e : ℕ) → e < sheet.face.inputs → CoversRuns ops (get_or ls e []) (RunBy ops meant sheet kind e)
  pub attains : Selects gives → (e : ℕ) → e < sheet.face.inputs → AreRuns (get_or ls e []) (RunBy ops meant sheet kind e)

module _ {M : Type 0} {ops : Amounts M} (laws : Lawful ops) (meant : List ℕ → M) {gives : List (Entry M) → List (Entry M) → Type 0} (sound : Sound ops gives) (sheet : Sheet) {w : ℕ} (form : Form w sheet) (named : Named sheet) (ls : List (List (Entry M))) where
  basic_shown : (ws : List ℕ) → Complete (State sheet) (Leads sheet) ws → BasicCard ops meant gives sheet ws (made ls) → Shown ops meant gives sheet Basic ls
  basic_shown ws complete h =
      let r = table_of ops meant gives sheet sound form.few_transitions (λ T. Events (λ f. EventList ops gives T (guarded sheet f)) sheet.face.inputs 0 []) ws ls complete h in
      let T = r.0 in
      let listed = events_listed (λ f. EventList ops gives T (guarded sheet f)) sheet.face.inputs 0 [] ls refl r.1.1 in
      let at : (e : ℕ) → e < sheet.face.inputs → EventList ops gives T (guarded sheet e) (list (get_or ls e [])) = λ e below. listed.after e (omega arith) (omega arith) in
      record {
        whole = record {
          all = omega (arith, listed.all);
          sized = λ e below. event_sized laws meant sound sheet form.few_outputs form.few_transitions named T r.1.0 e (get_or ls e []) (at e below);
        };
        covers = λ e below. event_covers laws meant sound sheet form.few_outputs form.few_transitions named T r.1.0 e (get_or ls e []) (at e below);
        attains = λ selects e below. event_attains ops meant selects sheet form.few_outputs named T r.1.0 complete e (get_or ls e []) (at e below);
      }

  service_shown : sheet.face.kind ≡ Service → ServiceCard ops meant gives sheet (made ls) → Shown ops meant gives sheet Service ls
  service_shown is h =
      let listed = events_listed (λ f. Reduces gives (served_entries meant f sheet.entries)) sheet.face.inputs 0 [] ls refl h in
      let at : (e : ℕ) → e < sheet.face.inputs → Reduces gives (served_entries meant e sheet.entries) (list (get_or ls e [])) = λ e below. listed.after e (omega arith) (omega arith) in
      record {
        whole = record {
          all = omega (arith, listed.all);
          sized = λ e below. service_sized laws meant sheet e (get_or ls e []) (at e below) sound (form.some_entries is e below) (form.few_entries e below);
        };
        covers = λ e below. service_covers laws meant sheet e (get_or ls e []) (at e below) sound (form.few_entries e below);
        attains = λ selects e below. service_attains laws meant sheet e (get_or ls e []) (at e below) selects;
      }

  pub shown : (kind : Kind) → sheet.face.kind ≡ kind → CardBy ops meant gives sheet kind (made ls) → Shown ops meant gives sheet kind ls
  shown Basic is h = basic_shown h.0 h.1.0 h.1.1
  shown Service is h = service_shown is h
  shown Composite is h = absurd h

module _ {M : Type 0} (ops : Amounts M) (meant : List ℕ → M) {gives : List (Entry M) → List (Entry M) → Type 0} (sheet : Sheet) (f : List (Entry M) → List (Entry M)) (computes : Computes gives f) where
  -- the plain function says the same, for the one complete order
  pub exact : (kind : Kind) (o : Outcome (Entry M)) → CardBy ops meant gives sheet kind o → ExactBy ops meant gives sheet kind f o
  exact Basic o h =
      λ ws complete. basic_is ops meant f computes sheet ws o (subst (λ l. BasicCard ops meant gives sheet l o) (complete_one h.0 ws h.1.0 complete) h.1.1)
  exact Service o h = service_is ops meant f computes sheet o h
  exact Composite o h = absurd h

-- refusal 10 and its place are the plain function's too
pub refusal_exact : {M : Type 0} (ops : Amounts M) (meant : List ℕ → M) (gives : List (Entry M) → List (Entry M) → Type 0) (sheet : Sheet) (e : Refusal) → RefusedBy ops meant gives sheet sheet.face.kind e → ExactRefusal ops meant gives sheet e
refusal_exact ops meant gives sheet (Unnamed at) h = h
refusal_exact ops meant gives sheet (Circle state) h = tt
refusal_exact ops meant gives sheet (TooLong at) h = λ f computes. exact ops meant sheet f computes sheet.face.kind (stops at) h

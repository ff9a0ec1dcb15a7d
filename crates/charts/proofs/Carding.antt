-- The card of a block from what working its events answers. Assumes nothing.
use Rattle.std.proofs.Common.{◌≡◌, ℕ, List, [], Ok, Err, Result, MatchResult, sym, subst}
use Rattle.costs.specs.Amounts.{Amounts}
use Rattle.costs.specs.Entries.{entry_ops}
use Rattle.costs.specs.Forming.{Formation}
use Rattle.costs.specs.Lent.{list_at}
use Rattle.costs.specs.declared.entry.Entry.{Entry}
use Rattle.order.specs.Order.{Complete}
use Rattle.sheets.specs.Sheets.{Sheet}
use Rattle.sheets.specs.declared.words.Kind.{Kind}
use Rattle.sheets.specs.declared.words.Kind.TheVariants.{Basic, Composite}
use Rattle.charts.specs.Forming.{Outcome, made, stops}
use Rattle.charts.specs.Charts.{State, Leads, guarded}
use Rattle.charts.specs.Cards.{EventBy, Events}
use Rattle.charts.specs.Refusals.{CardBy, RefusedBy, TooLongAt, lists_at}
use Rattle.charts.specs.Rows.{Working, Carded, Evented}
use Rattle.charts.specs.declared.refusal.Refusal.{Refusal}
use Rattle.charts.specs.declared.refusal.Refusal.TheVariants.{Unnamed, Circle, TooLong}
use Rattle.charts.proofs.ByKind.{service_card_by}
use Rattle.charts.proofs.Working.{events_as, event_same}

module _ {M : Type 0} (ops : Amounts M) (meant : List ℕ → M) (gives : List (Entry M) → List (Entry M) → Type 0) (sheet : Sheet) where
  -- what the events come to over a table is what the card comes to
  carded : (kind : Kind) (P : ℕ → Formation (Entry M) → Type 0) → ((o : Outcome (Entry M)) → Events P sheet.face.inputs 0 [] o → CardBy ops meant gives sheet kind o)
      → (rows : List (Entry M)) (r : Result (List ℕ) Refusal) → MatchResult r (Evented P sheet.face.inputs (entry_ops ops).zero rows) (TooLongAt (λ p. Events P sheet.face.inputs 0 [] (stops p)))
      → MatchResult r (Carded ops meant gives sheet kind rows) (RefusedBy ops meant gives sheet kind)
  carded kind P to rows (Ok lens) h = record { card = to (made (lists_at rows lens sheet.face.inputs 0)) h.events; lent = h.lent; padded = h.padded; unused = h.unused }
  carded kind P to rows (Err (TooLong p)) h = to (stops p) h
  carded kind P to rows (Err (Unnamed p)) h = absurd h
  carded kind P to rows (Err (Circle p)) h = absurd h

  abbrev pub Answered : Kind → (ℕ → List (Entry M)) → List (Entry M) → Result (List ℕ) Refusal → Type 0
  Answered kind T rows r = MatchResult r (Evented (EventBy ops meant gives sheet kind T) sheet.face.inputs (entry_ops ops).zero rows) (TooLongAt (λ p. Events (EventBy ops meant gives sheet kind T) sheet.face.inputs 0 [] (stops p)))

  pub basic_carded : (ws : List ℕ) (rows' : List (Entry M)) (lens' : List ℕ) → sheet.face.kind ≡ Basic → Complete (State sheet) (Leads sheet) ws → Working ops meant gives sheet ws ws [] rows' lens'
      → (rows : List (Entry M)) (r : Result (List ℕ) Refusal) → Answered sheet.face.kind (list_at rows' lens') rows r → MatchResult r (Carded ops meant gives sheet Basic rows) (RefusedBy ops meant gives sheet Basic)
  basic_carded ws rows' lens' kind complete worked rows r h =
      let T = list_at rows' lens' in
      carded Basic (EventBy ops meant gives sheet Basic T)
      (λ o es. (ws, (complete, worked.more o (events_as (EventBy ops meant gives sheet Basic T) (EventBy ops meant gives sheet Basic worked.table) (λ e f. event_same ops meant gives sheet T worked.table (λ t. sym (worked.same t)) (guarded sheet e) f) sheet.face.inputs 0 [] o es))))
      rows r (subst (λ k. Answered k T rows r) kind h)

  pub service_carded : (T : ℕ → List (Entry M)) → (sheet.face.kind ≡ Basic → ⊥) → (sheet.face.kind ≡ Composite → ⊥)
      → (rows : List (Entry M)) (r : Result (List ℕ) Refusal) → Answered sheet.face.kind T rows r → MatchResult r (Carded ops meant gives sheet sheet.face.kind rows) (RefusedBy ops meant gives sheet sheet.face.kind)
  service_carded T basic composite = carded sheet.face.kind (EventBy ops meant gives sheet sheet.face.kind T) (service_card_by ops meant gives sheet T sheet.face.kind basic composite)

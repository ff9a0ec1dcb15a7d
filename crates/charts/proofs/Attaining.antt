-- Where the reducer selects, each entry of a basic block's lists is a run's. Assumes nothing.
use Rattle.std.proofs.Common.{◌≡◌, ℕ, ◌≤◌, ◌⊎◌, List, [], ◌∷◌, sym, ap, ◌∙◌, subst, inl, inr, ⊎_elim}
use Rattle.std.specs.List.{flat_map}
use Rattle.costs.specs.Amounts.{Amounts}
use Rattle.costs.specs.Entries.{entry_ops}
use Rattle.costs.specs.Lists.{Among, sums, Selects}
use Rattle.costs.specs.Runs.{none_sent, both_sent, IsRun, RunOf, AreRuns}
use Rattle.costs.specs.declared.entry.Entry.{Entry}
use Rattle.costs.proofs.Interface.{among_all, among_unjoined, among_unsummed, is_run_alone, is_run_both}
use Rattle.order.specs.Order.{Complete}
use Rattle.order.proofs.Induction.{by_order}
use Rattle.sheets.specs.Sheets.{Sheet}
use Rattle.costs.specs.Forming.{list}
use Rattle.charts.specs.Charts.{state_cost, is_free, is_guarded, frees, guarded, State, Leads, Named, NamedTransition}
use Rattle.charts.specs.Cards.{StateList, EventList}
use Rattle.charts.specs.Runs.{entered_cost, entered_sends, StateRun, stop, go, BasicRun, ignore, follow}
use Rattle.charts.proofs.Dests.{free_parts, some_is, From, from_dests}
use Rattle.charts.proofs.Tables.{Formed}
use Rattle.charts.proofs.Costs.{cost_is}

-- the sum of the cost and an entry of the list of some destination
record Sum {M : Type 0} (ops : Amounts M) (T : ℕ → List (Entry M)) (cost : Entry M) (ds : List ℕ) (z : Entry M) : Type 0 where
  d : ℕ
  e : Entry M
  led : Among d ds
  listed : Among e (T d)
  is : (entry_ops ops).plus cost e ≡ z

module _ {M : Type 0} (ops : Amounts M) (meant : List ℕ → M) {gives : List (Entry M) → List (Entry M) → Type 0} (selects : Selects gives) (sheet : Sheet)
    (sending : sheet.face.outputs ≤ 8) (named : Named sheet) (T : ℕ → List (Entry M)) (formed : (s : ℕ) → State sheet s → Formed ops meant gives sheet T s) where
  -- where an entry of a state's list comes from
  from_state : (cost : Entry M) (ds : List ℕ) (es : List (Entry M)) → StateList ops gives T cost ds (list es) → (z : Entry M) → Among z es → (cost ≡ z) ⊎ Sum ops T cost ds z
  from_state cost [] es h z m = ⊎_elim inl (λ none. absurd none) (subst (Among z) h m)
  from_state cost (x ∷ ds) es h z m =
      let u = among_unsummed (entry_ops ops) z (cost ∷ []) (flat_map T (x ∷ ds)) (selects (sums (entry_ops ops) (cost ∷ []) (flat_map T (x ∷ ds))) es h.0 z m) in
      let alone : cost ≡ u.0 = ⊎_elim (λ e. e) (λ none. absurd none) u.2.0 in
      let j = among_unjoined T u.1 (x ∷ ds) u.2.1.0 in
      inr (record { d = j.0; e = u.1; led = j.1.0; listed = j.1.1; is = ap (λ c. (entry_ops ops).plus c u.1) alone ∙ u.2.1.1 })

  abbrev Attained : ℕ → Type 0
  Attained s = AreRuns (T s) (StateRun ops meant sheet s)

  state_attained : (s : ℕ) → State sheet s → ((d : ℕ) → Leads sheet s d → Attained d) → Attained s
  state_attained s state before z m =
      ⊎_elim
      (λ same. record { amount = entered_cost ops meant sheet s; sent = entered_sends sheet s; run = stop s; is = subst (λ x. IsRun x (entered_cost ops meant sheet s) (entered_sends sheet s)) same (cost_is ops meant sheet sending named s state) })
      went
      (from_state (state_cost ops meant sheet s) (frees sheet s) (T s) (formed s state).formed z m)
    where
      went : Sum ops T (state_cost ops meant sheet s) (frees sheet s) z → RunOf (StateRun ops meant sheet s) z
      went w =
          let cost = state_cost ops meant sheet s in
          let f = from_dests (is_free s) sheet.transitions w.d w.led in
          let parts = free_parts s f.transition f.passes in
          let r = before w.d w.led w.e w.listed in
          let a = ops.plus (entered_cost ops meant sheet s) r.amount in
          let ns = both_sent (entered_sends sheet s) r.sent in
          record {
            amount = a;
            sent = ns;
            run = go s f.transition r.amount r.sent f.listed parts.0 parts.1 (subst (λ k. StateRun ops meant sheet k r.amount r.sent) (sym f.leads) r.run);
            is = subst (λ x. IsRun x a ns) w.is (is_run_both ops cost w.e (entered_cost ops meant sheet s) r.amount (entered_sends sheet s) r.sent (cost_is ops meant sheet sending named s state) r.is);
          }

  every_state : {ws : List ℕ} → Complete (State sheet) (Leads sheet) ws → (s : ℕ) → State sheet s → Attained s
  every_state complete = by_order complete Attained state_attained

  event_from : {ws : List ℕ} → Complete (State sheet) (Leads sheet) ws → (f : ℕ) (ds : List ℕ) (es : List (Entry M)) → ((d : ℕ) → Among d ds → From (is_guarded f) sheet.transitions d)
      → EventList ops gives T ds (list es) → AreRuns es (BasicRun ops meant sheet f)
  event_from complete f [] es leads h z m =
      record { amount = ops.zero; sent = none_sent; run = ignore; is = subst (λ x. IsRun x ops.zero none_sent) (⊎_elim (λ e. e) (λ none. absurd none) (subst (Among z) h m)) (is_run_alone ops.zero) }
  event_from complete f (x ∷ ds) es leads h z m =
      let j = among_unjoined T z (x ∷ ds) (selects (flat_map T (x ∷ ds)) es h.0 z m) in
      let u = leads j.0 j.1.0 in
      let state = (among_all (NamedTransition sheet) u.transition sheet.transitions named.transitions u.listed).destination in
      let r = every_state complete j.0 (subst (State sheet) u.leads state) z j.1.1 in
      record {
        amount = r.amount;
        sent = r.sent;
        run = follow u.transition r.amount r.sent u.listed (some_is f u.transition.event u.passes) (subst (λ k. StateRun ops meant sheet k r.amount r.sent) (sym u.leads) r.run);
        is = r.is;
      }

  pub event_attains : {ws : List ℕ} → Complete (State sheet) (Leads sheet) ws → (f : ℕ) (es : List (Entry M)) → EventList ops gives T (guarded sheet f) (list es) → AreRuns es (BasicRun ops meant sheet f)
  event_attains complete f es h = event_from complete f (guarded sheet f) es (from_dests (is_guarded f) sheet.transitions) h

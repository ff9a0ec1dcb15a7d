-- The lists of a basic block cover its runs. Assumes nothing.
use Rattle.std.proofs.Common.{◌≡◌, ℕ, ◌<◌, ◌≤◌, Bool, List, [], ◌∷◌, length, sym, refl, ap, subst, inl, arith}
use Rattle.std.specs.List.{flat_map, AllByRecursion}
use Rattle.std.proofs.ByRecursion.{All-weaker}
use Rattle.costs.specs.Amounts.{Amounts, Lawful}
use Rattle.costs.specs.Entries.{entry_ops}
use Rattle.costs.specs.Lists.{Among, Sized, sums, Sound, CoveredBy}
use Rattle.costs.specs.Runs.{Sent, none_sent, both_sent, CoversRun, CoveredRun, CoversRuns}
use Rattle.costs.specs.declared.entry.Entry.{Entry}
use Rattle.costs.proofs.Interface.{entry_lawful, among_all, among_joined, length_sums, one_among, some_among, covered_itself, covered_sums, covered_reduced, covered_run, covers_run_as, covers_run_zero, covers_run_both, is_run_covered}
use Rattle.sheets.specs.Sheets.{Sheet}
use Rattle.sheets.specs.declared.words.Transition.{Transition}
use Rattle.costs.specs.Forming.{list}
use Rattle.charts.specs.Charts.{state_cost, is_free, is_guarded, dests, frees, guarded, State, Named, NamedTransition}
use Rattle.charts.specs.Cards.{StateList, EventList}
use Rattle.charts.specs.Runs.{entered_cost, entered_sends, StateRun, stop, go, BasicRun, ignore, follow}
use Rattle.charts.proofs.Dests.{is_free_from, is_guarded_from, among_dests, all_dests, few_dests, long_joined}
use Rattle.charts.proofs.Tables.{Formed}
use Rattle.charts.proofs.Costs.{cost_is}

module _ {M : Type 0} {ops : Amounts M} (laws : Lawful ops) (meant : List ℕ → M) {gives : List (Entry M) → List (Entry M) → Type 0} (sound : Sound ops gives) (sheet : Sheet)
    (sending : sheet.face.outputs ≤ 8) (few : length sheet.transitions ≤ 64) (named : Named sheet) (T : ℕ → List (Entry M)) (formed : (s : ℕ) → State sheet s → Formed ops meant gives sheet T s) where
  sized_dests : (p : Transition → Bool) → AllByRecursion (λ d. Sized (T d)) (dests p sheet.transitions)
  sized_dests p = all_dests (λ d. Sized (T d)) p sheet.transitions (All-weaker (NamedTransition sheet) (λ t. Sized (T t.destination)) (λ t h. (formed t.destination h.destination).sized) sheet.transitions named.transitions)

  pub short : (p : Transition → Bool) (ds : List ℕ) → ds ≡ dests p sheet.transitions → length (flat_map T ds) ≤ 1024
  short p ds is = omega (arith, long_joined T ds (subst (λ l. AllByRecursion (λ d. Sized (T d)) l) (sym is) (sized_dests p)), ap length is, few_dests p sheet.transitions)

  -- the cost with an entry of some destination's list is covered in the state's list
  through : (p : Transition → Bool) (cost : Entry M) (ds : List ℕ) → ds ≡ dests p sheet.transitions → (es : List (Entry M)) → StateList ops gives T cost ds (list es)
      → (d : ℕ) → Among d ds → (e : Entry M) → Among e (T d) → CoveredBy (entry_ops ops) es ((entry_ops ops).plus cost e)
  through p cost [] is es h d m e n = absurd m
  through p cost (x ∷ ds) is es h d m e n =
      let whole = flat_map T (x ∷ ds) in
      let el = entry_lawful laws in
      covered_reduced laws sound (sums (entry_ops ops) (cost ∷ []) whole) es ((entry_ops ops).plus cost e) (omega (arith, length_sums (entry_ops ops) (cost ∷ []) whole, short p (x ∷ ds) is)) h.0
      (covered_sums el (cost ∷ []) whole cost e (covered_itself el cost (cost ∷ []) (inl refl)) (covered_itself el e whole (among_joined T e d (x ∷ ds) m n)))

  -- stopping in the state
  stops_there : (p : Transition → Bool) (cost : Entry M) (ds : List ℕ) → ds ≡ dests p sheet.transitions → (es : List (Entry M)) → StateList ops gives T cost ds (list es) → AllByRecursion (λ d. Sized (T d)) ds
      → (a : M) (ns : Sent) → CoversRun ops cost a ns → CoveredRun ops es a ns
  stops_there p cost [] is es h all a ns covers = record { entry = cost; listed = subst (Among cost) (sym h) (inl refl); covers = covers }
  stops_there p cost (x ∷ ds) is es h all a ns covers =
      let first = one_among (T x) all.0.0 in
      let e = first.0 in
      let both = covers_run_both laws cost e a ops.zero ns none_sent covers (covers_run_zero laws e) in
      let same : (o : ℕ) → o < 8 → both_sent ns none_sent o ≡ ns o = λ o below. omega arith in
      covered_run laws es ((entry_ops ops).plus cost e) a ns (through p cost (x ∷ ds) is es h x (inl refl) e first.1)
      (covers_run_as ops ((entry_ops ops).plus cost e) a (both_sent ns none_sent) ns same (subst (λ v. CoversRun ops ((entry_ops ops).plus cost e) v (both_sent ns none_sent)) (laws.neutral a) both))

  entered : (s : ℕ) → State sheet s → CoversRun ops (state_cost ops meant sheet s) (entered_cost ops meant sheet s) (entered_sends sheet s)
  entered s state = is_run_covered laws (state_cost ops meant sheet s) (entered_cost ops meant sheet s) (entered_sends sheet s) (cost_is ops meant sheet sending named s state)

  to_state : (t : Transition) → Among t sheet.transitions → State sheet t.destination
  to_state t m = (among_all (NamedTransition sheet) t sheet.transitions named.transitions m).destination

  covered : {s : ℕ} {a : M} {ns : Sent} → StateRun ops meant sheet s a ns → State sheet s → CoveredRun ops (T s) a ns
  covered (stop s) state = stops_there (is_free s) (state_cost ops meant sheet s) (frees sheet s) refl (T s) (formed s state).formed (sized_dests (is_free s)) (entered_cost ops meant sheet s) (entered_sends sheet s) (entered s state)
  covered (go s t a ns listed none is run) state =
      let ih = covered run (to_state t listed) in
      let cost = state_cost ops meant sheet s in
      covered_run laws (T s) ((entry_ops ops).plus cost ih.entry) (ops.plus (entered_cost ops meant sheet s) a) (both_sent (entered_sends sheet s) ns)
      (through (is_free s) cost (frees sheet s) refl (T s) (formed s state).formed t.destination (among_dests (is_free s) sheet.transitions t listed (is_free_from s t none is)) ih.entry ih.listed)
      (covers_run_both laws cost ih.entry (entered_cost ops meant sheet s) a (entered_sends sheet s) ns (entered s state) ih.covers)

  event_through : (p : Transition → Bool) (ds : List ℕ) → ds ≡ dests p sheet.transitions → (es : List (Entry M)) → EventList ops gives T ds (list es) → (d : ℕ) → Among d ds → (e : Entry M) → Among e (T d) → CoveredBy (entry_ops ops) es e
  event_through p [] is es h d m e n = absurd m
  event_through p (x ∷ ds) is es h d m e n =
      covered_reduced laws sound (flat_map T (x ∷ ds)) es e (short p (x ∷ ds) is) h.0 (covered_itself (entry_lawful laws) e (flat_map T (x ∷ ds)) (among_joined T e d (x ∷ ds) m n))

  some_entry : (p : Transition → Bool) (ds : List ℕ) → ds ≡ dests p sheet.transitions → (es : List (Entry M)) → EventList ops gives T ds (list es) → AllByRecursion (λ d. Sized (T d)) ds → (e : Entry M) × Among e es
  some_entry p [] is es h all = ((entry_ops ops).zero, subst (Among (entry_ops ops).zero) (sym h) (inl refl))
  some_entry p (x ∷ ds) is es h all =
      let first = one_among (T x) all.0.0 in
      let over = event_through p (x ∷ ds) is es h x (inl refl) first.0 first.1 in
      (over.one, over.listed)

  -- an event's list has an entry, and covers every run of the event
  pub event_sized : (f : ℕ) (es : List (Entry M)) → EventList ops gives T (guarded sheet f) (list es) → Sized es
  event_sized f es h = let e = some_entry (is_guarded f) (guarded sheet f) refl es h (sized_dests (is_guarded f)) in (some_among e.0 es e.1, most (guarded sheet f) h)
    where
      most : (ds : List ℕ) → EventList ops gives T ds (list es) → length es ≤ 16
      most [] is = omega (arith, ap length is)
      most (d ∷ ds) r = r.1

  pub event_covers : (f : ℕ) (es : List (Entry M)) → EventList ops gives T (guarded sheet f) (list es) → CoversRuns ops es (BasicRun ops meant sheet f)
  event_covers f es h a ns ignore =
      let e = some_entry (is_guarded f) (guarded sheet f) refl es h (sized_dests (is_guarded f)) in
      record { entry = e.0; listed = e.1; covers = covers_run_zero laws e.0 }
  event_covers f es h a ns (follow t a' ns' listed guards run) =
      let ih = covered run (to_state t listed) in
      covered_run laws es ih.entry a ns
      (event_through (is_guarded f) (guarded sheet f) refl es h t.destination (among_dests (is_guarded f) sheet.transitions t listed (is_guarded_from f t guards)) ih.entry ih.listed) ih.covers

-- A state's cost and a service entry are those of what a run does there. Assumes nothing.
use Rattle.std.proofs.Common.{◌≡◌, ℕ, zero, suc, ◌+◌, ◌<◌, ◌≤◌, min, List, [], ◌∷◌, length, get_or, drop, Some, None, Option, sym, refl, ap, ◌∙◌, inl, inr, ⊎_elim, arith}
use Rattle.std.specs.List.{AllByRecursion, fold}
use Rattle.std.proofs.lemmas.List.{at_drop_more}
use Rattle.std.proofs.ByRecursion.{All-get_or}
use Rattle.std.proofs.lemmas.Bool.{cases_lt}
use Rattle.costs.specs.Amounts.{Amounts}
use Rattle.costs.specs.Entries.{first_counts, entry_ops}
use Rattle.costs.specs.Runs.{Sent, SameCount, IsRun}
use Rattle.costs.proofs.Interface.{is_run_alone, is_run_once, is_run_both}
use Rattle.costs.specs.declared.entry.Entry.{Entry}
use Rattle.sheets.specs.Sheets.{Sheet, Served}
use Rattle.sheets.specs.declared.words.Action.{Action}
use Rattle.charts.specs.Charts.{no_action, output_counts, algorithm_amount, action_cost, actions_cost, state_cost, served_entry, State, Within, NamedAction, Named}
use Rattle.charts.specs.Runs.{sends, all_send, all_cost, entered_cost, entered_sends}

output_is : {M : Type 0} (ops : Amounts M) (a : M) (n : ℕ) → n ≤ 8 → (o : Option ℕ) → Within n o → IsRun (record { amount = a; counts = output_counts o }) a (sends o)
output_is ops a n few None within = is_run_alone a
output_is ops a n few (Some p) within = record { amount = refl; counts = (is_run_once ops p (omega arith)).counts }

module _ {M : Type 0} (ops : Amounts M) (meant : List ℕ → M) (sheet : Sheet) (few : sheet.face.outputs ≤ 8) where
  actions_are : (more : List Action) → AllByRecursion (NamedAction sheet) more → IsRun (actions_cost ops meant sheet more) (all_cost ops meant sheet more) (all_send more)
  actions_are [] all = is_run_alone ops.zero
  actions_are (a ∷ more) all =
      is_run_both ops (action_cost ops meant sheet a) (actions_cost ops meant sheet more) (algorithm_amount ops meant sheet a.algorithm) (all_cost ops meant sheet more) (sends a.output) (all_send more)
      (output_is ops (algorithm_amount ops meant sheet a.algorithm) sheet.face.outputs few a.output all.0.output) (actions_are more all.1)

  -- what a state costs is what entering it costs and sends
  pub cost_is : Named sheet → (s : ℕ) → State sheet s → IsRun (state_cost ops meant sheet s) (entered_cost ops meant sheet s) (entered_sends sheet s)
  unfolding state_cost
  cost_is named s state = actions_are (get_or sheet.states s []) (All-get_or (AllByRecursion (NamedAction sheet)) sheet.states s [] state named.states)

-- the actions' costs, added from action n - 1 down to the first
pub summed_down : {M : Type 0} (ops : Amounts M) (meant : List ℕ → M) (sheet : Sheet) (xs : List Action) (js : List ℕ) (n : ℕ) (e : Entry M) → length js ≡ n → n ≤ length xs
    → ((k : ℕ) → k < n → get_or js k 0 + k + 1 ≡ n) → e ≡ actions_cost ops meant sheet (drop n xs)
    → fold (λ cost j. (entry_ops ops).plus (action_cost ops meant sheet (get_or xs j no_action)) cost) e js ≡ actions_cost ops meant sheet xs
summed_down ops meant sheet xs [] n e long within down is = is ∙ ap (λ k. actions_cost ops meant sheet (drop k xs)) (sym long)
summed_down ops meant sheet xs (j ∷ js) n e long within down is =
    let here : j + 1 ≡ n = omega (arith, down 0 (omega arith)) in
    summed_down ops meant sheet xs js j _ (omega arith) (omega arith) (λ k below. omega (arith, down (suc k) (omega arith)))
    (ap (λ c. (entry_ops ops).plus (action_cost ops meant sheet (get_or xs j no_action)) c) (is ∙ ap (λ k. actions_cost ops meant sheet (drop k xs)) (sym here)) ∙ sym (at_drop_more (actions_cost ops meant sheet) xs j no_action (omega arith)))

counts_at : (n : ℕ) (bs : List ℕ) (o : ℕ) → o < n → get_or (first_counts n bs) o 0 ≡ min (get_or bs o 0) 255
counts_at zero bs o below = absurd (omega arith)
counts_at (suc n) [] zero below = refl
counts_at (suc n) [] (suc o) below = counts_at n [] o (omega arith)
counts_at (suc n) (b ∷ bs) zero below = refl
counts_at (suc n) (b ∷ bs) (suc o) below = counts_at n bs o (omega arith)

-- a service entry is that of every run that its counts allow
pub entry_is : {M : Type 0} (meant : List ℕ → M) (x : Served) (ns : Sent) → ((o : ℕ) → SameCount (get_or x.counts o 0) (ns o)) → IsRun (served_entry meant x) (meant x.amount) ns
entry_is meant x ns allowed = record {
  amount = refl;
  counts = λ o below.
      let is = counts_at 8 x.counts o below in
      ⊎_elim
      (λ same. ⊎_elim (λ lt. inl (omega (arith, is, same, lt))) (λ ge. inr (omega (arith, is, ge), omega (arith, same, ge))) (cases_lt (get_or x.counts o 0) 255))
      (λ full. inr (omega (arith, is, full.0), full.1))
      (allowed o);
}

pub within_more : (n m : ℕ) (o : Option ℕ) → n ≤ m → Within n o → Within m o
within_more n m None le h = tt
within_more n m (Some k) le h = omega arith

-- The lists of a service block cover its runs and, by a reducer that selects, are attained. Assumes nothing.
use Rattle.std.proofs.Common.{◌≡◌, ℕ, ◌≤◌, eqb, List, [], ◌∷◌, length, get_or, sym, refl, ap, ◌∙◌, subst, inl, inr, ⊎_elim, arith}
use Rattle.std.proofs.lemmas.Bool.{cond-true, cond-false, cases_Bool, cond_both, eqb-true, eq-eqb}
use Rattle.costs.specs.Amounts.{Amounts, Lawful}
use Rattle.costs.specs.Lists.{Among, Sized, Sound, Selects}
use Rattle.costs.specs.Runs.{Sent, SameCount, IsRun, CoversRuns, AreRuns}
use Rattle.costs.specs.declared.entry.Entry.{Entry}
use Rattle.costs.proofs.Interface.{entry_lawful, covered_itself, covered_reduced, covered_run, is_run_covered}
use Rattle.sheets.specs.Form.{served}
use Rattle.sheets.specs.Sheets.{Sheet, Served}
use Rattle.costs.specs.Forming.{list, Reduces}
use Rattle.charts.specs.Charts.{served_entry, served_entries}
use Rattle.charts.specs.Runs.{ServiceRun, serve}
use Rattle.charts.proofs.Costs.{entry_is}

pub length_served : {M : Type 0} (meant : List ℕ → M) (f : ℕ) (xs : List Served) → length (served_entries meant f xs) ≡ served f xs
length_served meant f [] = refl
length_served meant f (x ∷ xs) =
    let rest = length_served meant f xs in
    ⊎_elim
    (λ is. omega (arith, rest, ap length (cond-true (eqb x.event f) (served_entry meant x ∷ served_entries meant f xs) (served_entries meant f xs) is), cond-true {A = ℕ} (eqb x.event f) 1 0 is))
    (λ isnt. omega (arith, rest, ap length (cond-false (eqb x.event f) (served_entry meant x ∷ served_entries meant f xs) (served_entries meant f xs) isnt), cond-false {A = ℕ} (eqb x.event f) 1 0 isnt))
    (cases_Bool (eqb x.event f))

among_served : {M : Type 0} (meant : List ℕ → M) (f : ℕ) (xs : List Served) (x : Served) → Among x xs → x.event ≡ f → Among (served_entry meant x) (served_entries meant f xs)
among_served meant f [] x h is = absurd h
among_served meant f (y ∷ ys) x (inl e) is =
    subst (Among (served_entry meant x)) (sym (cond-true (eqb y.event f) (served_entry meant y ∷ served_entries meant f ys) (served_entries meant f ys) (eq-eqb _ _ (ap (λ z. z.event) e ∙ is)))) (inl (ap (served_entry meant) e))
among_served meant f (y ∷ ys) x (inr h) is =
    let rest = among_served meant f ys x h is in
    cond_both (eqb y.event f) (served_entry meant y ∷ served_entries meant f ys) (served_entries meant f ys) (Among (served_entry meant x)) (λ _. inr rest) (λ _. rest)

record Served_as {M : Type 0} (meant : List ℕ → M) (f : ℕ) (xs : List Served) (e : Entry M) : Type 0 where
  one : Served
  listed : Among one xs
  event : one.event ≡ f
  is : served_entry meant one ≡ e

later : {M : Type 0} (meant : List ℕ → M) (f : ℕ) (y : Served) (ys : List Served) (e : Entry M) → Served_as meant f ys e → Served_as meant f (y ∷ ys) e
later meant f y ys e r = record { one = r.one; listed = inr r.listed; event = r.event; is = r.is }

from_served : {M : Type 0} (meant : List ℕ → M) (f : ℕ) (xs : List Served) (e : Entry M) → Among e (served_entries meant f xs) → Served_as meant f xs e
from_served meant f [] e h = absurd h
from_served meant f (y ∷ ys) e h =
    ⊎_elim
    (λ is. ⊎_elim
    (λ e'. record { one = y; listed = inl refl; event = eqb-true _ _ is; is = e' })
    (λ m. later meant f y ys e (from_served meant f ys e m))
    (subst (Among e) (cond-true (eqb y.event f) (served_entry meant y ∷ served_entries meant f ys) (served_entries meant f ys) is) h))
    (λ isnt. later meant f y ys e (from_served meant f ys e (subst (Among e) (cond-false (eqb y.event f) (served_entry meant y ∷ served_entries meant f ys) (served_entries meant f ys) isnt) h)))
    (cases_Bool (eqb y.event f))

module _ {M : Type 0} {ops : Amounts M} (laws : Lawful ops) (meant : List ℕ → M) {gives : List (Entry M) → List (Entry M) → Type 0} (sheet : Sheet) (f : ℕ) (es : List (Entry M))
    (reduced : Reduces gives (served_entries meant f sheet.entries) (list es)) where
  pub service_sized : Sound ops gives → 1 ≤ served f sheet.entries → served f sheet.entries ≤ 16 → Sized es
  service_sized sound some few =
      let size = length_served meant f sheet.entries in
      ((sound (served_entries meant f sheet.entries) es (omega (arith, size)) (omega (arith, size)) reduced.0).some, reduced.1)

  pub service_covers : Sound ops gives → served f sheet.entries ≤ 16 → CoversRuns ops es (ServiceRun meant sheet f)
  service_covers sound few a ns (serve x ns' listed is allowed) =
      let whole = served_entries meant f sheet.entries in
      let e = served_entry meant x in
      covered_run laws es e a ns
      (covered_reduced laws sound whole es e (omega (arith, length_served meant f sheet.entries)) reduced.0 (covered_itself (entry_lawful laws) e whole (among_served meant f sheet.entries x listed is)))
      (is_run_covered laws e a ns (entry_is meant x ns allowed))

  pub service_attains : Selects gives → AreRuns es (ServiceRun meant sheet f)
  service_attains selects e m =
      let r = from_served meant f sheet.entries e (selects (served_entries meant f sheet.entries) es reduced.0 e m) in
      let x = r.one in
      let sent : Sent = λ o. get_or x.counts o 0 in
      let allowed : (o : ℕ) → SameCount (get_or x.counts o 0) (get_or x.counts o 0) = λ o. inl refl in
      record { amount = meant x.amount; sent = sent; run = serve x sent r.listed r.event allowed; is = subst (λ z. IsRun z (meant x.amount) sent) r.is (entry_is meant x sent allowed) }

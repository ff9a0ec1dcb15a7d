-- A way of a state that is still open, from a search among the transitions. Assumes nothing.
use Rattle.std.proofs.Common.{◌≡◌, ℕ, ◌<◌, Bool, true, List, length, Some, None, Option, MatchOption, sym, subst}
use Rattle.std.specs.Option.{option_map}
use Rattle.std.specs.List.{AllByRecursion, AllWithin, HoldsAt}
use Rattle.std.proofs.ByRecursion.{all_from_every}
use Rattle.costs.specs.Lists.{Among}
use Rattle.costs.proofs.Interface.{among_all}
use Rattle.order.specs.Order.{Marked, Ready, Barred, Below}
use Rattle.sheets.specs.Sheets.{Sheet}
use Rattle.sheets.specs.declared.words.Transition.{Transition}
use Rattle.charts.specs.Charts.{is_free, Leads, NamedTransition}
use Rattle.charts.proofs.Dests.{from_dests, among_dests, among_get_or}

module _ (sheet : Sheet) (named : AllByRecursion (NamedTransition sheet) sheet.transitions) (k : ℕ) (marks : List Bool) where
  -- an open transition of state k; and one that is none
  abbrev pub Open : Transition → Type 0
  Open t = (is_free k t ≡ true) × (Marked marks t.destination → ⊥)

  abbrev pub Closed : Transition → Type 0
  Closed t = is_free k t ≡ true → Marked marks t.destination

  pub open_way : (o : Option Transition) (ts : List Transition) → ts ≡ sheet.transitions
      → MatchOption o (AllWithin Closed ts 0 (length ts)) (λ t. Open t × (i : ℕ) × (i < length ts) × HoldsAt (λ u. u ≡ t) ts i × AllWithin Closed ts 0 i)
      → (r : Option ℕ) → r ≡ option_map (λ t. t.destination) o
      → MatchOption r (Ready (Leads sheet) (Marked marks) k) (Barred (Below (length sheet.states) (λ _. Unit {0})) (Leads sheet) (Marked marks) k)
  open_way None ts same all r is = subst (λ r. MatchOption r (Ready (Leads sheet) (Marked marks) k) (Barred (Below (length sheet.states) (λ _. Unit {0})) (Leads sheet) (Marked marks) k)) (sym is)
      (λ d way.
      let from = from_dests (is_free k) sheet.transitions d way in
      let closed = among_all Closed from.transition sheet.transitions (subst (AllByRecursion Closed) same (all_from_every Closed ts all)) from.listed in
      subst (Marked marks) from.leads (closed from.passes))
  open_way (Some t) ts same found r is = subst (λ r. MatchOption r (Ready (Leads sheet) (Marked marks) k) (Barred (Below (length sheet.states) (λ _. Unit {0})) (Leads sheet) (Marked marks) k)) (sym is)
      (let listed : Among t sheet.transitions = subst (Among t) same (subst (λ u. Among u ts) (found.3 t) (among_get_or ts found.1 t found.2)) in
      record {
        node = ((among_all (NamedTransition sheet) t sheet.transitions named listed).destination, tt);
        way = among_dests (is_free k) sheet.transitions t listed found.0.0;
        unmet = found.0.1;
      })

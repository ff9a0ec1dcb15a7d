-- Where the transitions that pass a test lead. Assumes nothing.
use Rattle.std.proofs.Common.{◌≡◌, ℕ, zero, suc, ◌*◌, ◌<◌, ◌≤◌, Bool, true, eqb, List, [], ◌∷◌, ◌++◌, length, get_or, Some, None, Option, sym, refl, ap, ◌∙◌, subst, inl, inr, ⊎_elim, arith}
use borrow.Author.Tests.{clash}
use Rattle.std.specs.List.{flat_map, AllByRecursion}
use Rattle.std.proofs.lemmas.List.{length-append}
use Rattle.std.proofs.lemmas.Bool.{cond-true, cond-false, cases_Bool, cond_both, eqb-true, eq-eqb, and_parts, and_from}
use Rattle.costs.specs.Lists.{Among, Sized}
use Rattle.sheets.specs.declared.words.Transition.{Transition}
use Rattle.charts.specs.Charts.{no_event, event_is, is_free, is_guarded, dests}

pub none_is : (o : Option ℕ) → no_event o ≡ true → o ≡ None
none_is None h = refl
none_is (Some e) h = absurd (clash h)

pub some_is : (f : ℕ) (o : Option ℕ) → event_is f o ≡ true → o ≡ Some f
some_is f None h = absurd (clash h)
some_is f (Some e) h = ap Some (eqb-true e f h)

pub free_parts : (s : ℕ) (t : Transition) → is_free s t ≡ true → (t.event ≡ None) × (t.source ≡ s)
free_parts s t h = let p = and_parts (no_event t.event) (eqb t.source s) h in (none_is t.event p.0, eqb-true _ _ p.1)

pub is_free_from : (s : ℕ) (t : Transition) → t.event ≡ None → t.source ≡ s → is_free s t ≡ true
is_free_from s t none is = and_from (no_event t.event) (eqb t.source s) (ap no_event none) (eq-eqb _ _ is)

pub is_guarded_from : (f : ℕ) (t : Transition) → t.event ≡ Some f → is_guarded f t ≡ true
is_guarded_from f t is = ap (event_is f) is ∙ eq-eqb f f refl

-- a transition that passes leads to one of the destinations, and the other way
pub among_dests : (p : Transition → Bool) (ts : List Transition) (t : Transition) → Among t ts → p t ≡ true → Among t.destination (dests p ts)
among_dests p [] t h is = absurd h
among_dests p (u ∷ ts) t (inl e) is =
    subst (Among t.destination) (sym (cond-true (p u) (u.destination ∷ dests p ts) (dests p ts) (ap p e ∙ is))) (inl (ap (λ x. x.destination) e))
among_dests p (u ∷ ts) t (inr h) is =
    let rest = among_dests p ts t h is in
    cond_both (p u) (u.destination ∷ dests p ts) (dests p ts) (Among t.destination) (λ _. inr rest) (λ _. rest)

pub record From (p : Transition → Bool) (ts : List Transition) (d : ℕ) : Type 0 where
  pub transition : Transition
  pub listed : Among transition ts
  pub passes : p transition ≡ true
  pub leads : transition.destination ≡ d

later : (p : Transition → Bool) (u : Transition) (ts : List Transition) (d : ℕ) → From p ts d → From p (u ∷ ts) d
later p u ts d r = record { transition = r.transition; listed = inr r.listed; passes = r.passes; leads = r.leads }

pub from_dests : (p : Transition → Bool) (ts : List Transition) (d : ℕ) → Among d (dests p ts) → From p ts d
from_dests p [] d h = absurd h
from_dests p (u ∷ ts) d h =
    ⊎_elim
    (λ is. ⊎_elim (λ e. record { transition = u; listed = inl refl; passes = is; leads = e }) (λ rest. later p u ts d (from_dests p ts d rest)) (subst (Among d) (cond-true (p u) (u.destination ∷ dests p ts) (dests p ts) is) h))
    (λ isnt. later p u ts d (from_dests p ts d (subst (Among d) (cond-false (p u) (u.destination ∷ dests p ts) (dests p ts) isnt) h)))
    (cases_Bool (p u))

pub all_dests : (P : ℕ → Type 0) (p : Transition → Bool) (ts : List Transition) → AllByRecursion (λ t. P t.destination) ts → AllByRecursion P (dests p ts)
all_dests P p [] all = tt
all_dests P p (u ∷ ts) all =
    let rest = all_dests P p ts all.1 in
    cond_both (p u) (u.destination ∷ dests p ts) (dests p ts) (AllByRecursion P) (λ _. (all.0, rest)) (λ _. rest)

pub few_dests : (p : Transition → Bool) (ts : List Transition) → length (dests p ts) ≤ length ts
few_dests p [] = omega arith
few_dests p (u ∷ ts) = let rest = few_dests p ts in cond_both (p u) (u.destination ∷ dests p ts) (dests p ts) (λ l. length l ≤ suc (length ts)) (λ _. omega arith) (λ _. omega arith)

pub long_joined : {X : Type 0} (T : ℕ → List X) (ds : List ℕ) → AllByRecursion (λ d. Sized (T d)) ds → length (flat_map T ds) ≤ 16 * length ds
long_joined T [] all = omega arith
long_joined T (d ∷ ds) all = omega (arith, length-append (T d) (flat_map T ds), all.0.1, long_joined T ds all.1)

-- tables that agree on the destinations
pub joined_same : {X : Type 0} (T V : ℕ → List X) (ds : List ℕ) → ((d : ℕ) → Among d ds → T d ≡ V d) → flat_map T ds ≡ flat_map V ds
joined_same T V [] same = refl
joined_same T V (d ∷ ds) same = ap (λ l. l ++ flat_map T ds) (same d (inl refl)) ∙ ap (λ l. V d ++ l) (joined_same T V ds (λ x m. same x (inr m)))

pub among_get_or : {X : Type 0} (xs : List X) (i : ℕ) (x : X) → i < length xs → Among (get_or xs i x) xs
among_get_or [] i x within = absurd (omega arith)
among_get_or (y ∷ ys) zero x within = inl refl
among_get_or (y ∷ ys) (suc i) x within = inr (among_get_or ys i x (omega arith))

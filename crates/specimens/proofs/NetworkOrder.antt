-- The working order of the two places. Assumes nothing.
use Rattle.std.proofs.Common.{◌≡◌, ℕ, zero, suc, ◌+◌, ◌*◌, ◌/◌, ◌%◌, ◌<◌, ◌≤◌, true, ◌⊎◌, List, [], ◌∷◌, sym, refl, subst, inl, inr, ⊎_elim, arith}
use borrow.Author.Tests.{clash}
use Rattle.std.specs.List.{ContainsAt as Has, AllByRecursion}
use Rattle.std.proofs.ByRecursion.{all-has}
use Rattle.std.proofs.lemmas.Bool.{cases_lt, cond_both}
use Rattle.costs.proofs.Interface.{among_all}
use Rattle.order.specs.Order.{Order}
use Rattle.sheets.specs.declared.words.Connection.{Connection}
use Rattle.sheets.specs.declared.words.End.{End}
use Rattle.sheets.specs.declared.words.End.TheVariants.{Outside, Inside}
use Rattle.networks.specs.Networks.{same, targets, Named, Node, Leads, WorkedIn}
use Rattle.specimens.specs.CostCases.{entry}
use Rattle.specimens.specs.NetworkCases.{two, two_faces, two_cards}

all_targets_from : (P : End → Type 0) (cs : List Connection) (s : End) → AllByRecursion (λ c. same c.source s ≡ true → P c.target) cs → AllByRecursion P (targets cs s)
all_targets_from P [] s all = tt
all_targets_from P (c ∷ cs) s all =
    let rest = all_targets_from P cs s all.1 in
    cond_both (same c.source s) (c.target ∷ targets cs s) (targets cs s) (AllByRecursion P) (λ e. (all.0 e, rest)) (λ _. rest)

pub narrow : (i : ℕ) → i < 2 → (two_faces i).inputs ≤ 8
narrow zero within = omega arith
narrow (suc i) within = omega arith

pub named : Named two
named = (
  record { source = omega arith; target = (omega arith, omega arith) },
  (
    record { source = (omega arith, omega arith); target = (omega arith, omega arith) },
    (record { source = (omega arith, omega arith); target = omega arith }, (record { source = (omega arith, omega arith); target = omega arith }, tt)),
  ),
)

one_input : (i : ℕ) → (two_faces i).inputs ≤ 1
one_input zero = omega arith
one_input (suc i) = omega arith

-- the places are 0 and 8
node_cases : (n : ℕ) → Node two n → (n ≡ 0) ⊎ (n ≡ 8)
node_cases n node =
    let few = one_input (n / 8) in
    ⊎_elim (λ lt. inl (omega (arith, lt, few, node.1))) (λ le. inr (omega (arith, le, few, node.0, node.1))) (cases_lt (n / 8) 1)

abbrev IsOutside : End → Type 0
IsOutside (Outside p) = Unit {0}
IsOutside (Inside i f) = ⊥

-- place 8 leads nowhere
last_leads : (m : ℕ) → Leads two two_cards 8 m → ⊥
last_leads m leads = among_all IsOutside (Inside (m / 8) (m % 8)) (targets two.connections (Inside 1 leads.output))
    (all_targets_from IsOutside two.connections (Inside 1 leads.output) (λ h. absurd (clash h), (λ h. absurd (clash h), (λ _. tt, (λ _. tt, tt)))))
    leads.connected

-- place 0 leads to place 8, and nowhere else
first_leads : Leads two two_cards 0 8
first_leads = record { entry = entry 0 (2 ∷ []); listed = inl refl; output = 0; counted = omega arith; connected = inl refl }

abbrev IsEight : End → Type 0
IsEight (Outside p) = Unit {0}
IsEight (Inside i f) = 8 * i + f ≡ 8

first_only : (m : ℕ) → Leads two two_cards 0 m → m ≡ 8
first_only m leads =
    let is : 8 * (m / 8) + m % 8 ≡ 8 = among_all IsEight (Inside (m / 8) (m % 8)) (targets two.connections (Inside 0 leads.output))
    (all_targets_from IsEight two.connections (Inside 0 leads.output) (λ h. absurd (clash h), (λ _. refl, (λ h. absurd (clash h), (λ h. absurd (clash h), tt)))))
    leads.connected in
    omega (arith, is)

abbrev pub ws : List ℕ
ws = 8 ∷ 0 ∷ []

order : Order (Node two) (Leads two two_cards) ws
order zero within = record {
  node = (omega arith, omega arith);
  unworked = λ h. absurd (omega (arith, h.1));
  ready = λ m leads. absurd (last_leads m leads);
  lowest = λ m less node un ready.
      let h = ready 8 (subst (λ k. Leads two two_cards k 8) (sym (⊎_elim (λ e. e) (λ e. absurd (omega (arith, e, less))) (node_cases m node))) first_leads) in
      absurd (omega (arith, h.1));
}
order (suc zero) within = record {
  node = (omega arith, omega arith);
  unworked = λ h. let is : 0 ≡ 8 = all-has (λ x. x ≡ 8) (8 ∷ []) 0 (refl, tt) h in absurd (omega (arith, is));
  ready = λ m leads. subst (Has (8 ∷ [])) (sym (first_only m leads)) (0, omega arith, λ d. refl);
  lowest = λ m less node un ready. absurd (omega arith);
}
order (suc (suc k)) within = absurd (omega arith)

pub worked_in : WorkedIn two two_cards ws
worked_in = record {
  order = order;
  all = λ n node. ⊎_elim (λ e. subst (Has ws) (sym e) (1, omega arith, λ d. refl)) (λ e. subst (Has ws) (sym e) (0, omega arith, λ d. refl)) (node_cases n node);
}

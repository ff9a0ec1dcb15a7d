-- Every checked sheet has the form. Assumes nothing.
use Rattle.std.proofs.Common.{◌≡◌, ℕ, ◌≤◌, true, List, ◌∷◌, map, length, is_ok, unwrap_or, sym, refl, ap, ◌∙◌, subst, ⊎_elim, arith}
use Rattle.std.proofs.lemmas.List.{length-map}
use Rattle.std.proofs.lemmas.Bool.{cases_eq, cond-false, ne_eqb}
use Rattle.sheets.specs.Frames.{Raw}
use Rattle.sheets.specs.Fields.{kind_of}
use Rattle.sheets.specs.Form.{Form, served}
use Rattle.sheets.specs.Grammar.{byte, count, entries, most_of, fault}
use Rattle.sheets.specs.Lawful.{Heads, Belongs, Needed, Whole, Accepts, Lawful}
use Rattle.sheets.specs.Lawful as L
use Rattle.sheets.specs.Refusals.{check_of}
use Rattle.sheets.specs.Sheets.{tagged, first_of, actions_at, served_at, transition_at, connection_at, sheet_from, sheet_of}
use Rattle.sheets.specs.declared.words.Kind.{Kind}
use Rattle.sheets.specs.declared.words.Kind.TheVariants.{Basic, Service, Composite}
use Rattle.sheets.proofs.Limits.{length_tagged, served_entries, few_of, few_for, amounts_long, amounts_wide, amounts_fit, actions_few, entries_fit}
use Rattle.sheets.proofs.Meaning.{lawful_checked}
use Rattle.sheets.proofs.Reading.{no_fault, Headed, headed}

-- which byte a kind comes from
byte_of : Kind → ℕ
byte_of Basic = 1
byte_of Service = 2
byte_of Composite = 3

kind_byte : (k : ℕ) → 1 ≤ k → k ≤ 3 → k ≡ byte_of (unwrap_or (kind_of k) Basic)
unfolding byte_of
kind_byte k low high =
    ⊎_elim
    (λ one. rw one refl)
    (λ not1. ⊎_elim (λ two. rw two refl) (λ not2. let three : k ≡ 3 = omega arith in rw three refl) (cases_eq k 2))
    (cases_eq k 1)

module _ (w : ℕ) (head : Raw) (fs : List Raw) (acc : Accepts w head fs) (face : Heads head) (whole : Whole head fs) (h : Headed w (head ∷ fs)) (same : h.head ≡ head) where
  all : List Raw
  all = head ∷ fs

  -- the interface has no other tag
  skip : (t : ℕ) → (t ≡ 1 → ⊥) → tagged t (head ∷ fs) ≡ tagged t fs
  skip t not1 = cond-false _ _ _ (ne_eqb head.tag t (λ e. not1 (sym e ∙ face.tag)))

  few : (t : ℕ) → (t ≡ 1 → ⊥) → (t ≡ 5 → ⊥) → length (tagged t (head ∷ fs)) ≤ most_of t
  few t not1 not5 = omega (arith, ap length (skip t not1), length_tagged t fs, few_of acc t not5)

  served_is : (e : ℕ) → served e (map (served_at w) (tagged 5 (head ∷ fs))) ≡ entries e fs
  served_is e = ap (λ l. served e (map (served_at w) l)) (skip 5 (λ e. omega arith)) ∙ served_entries w e fs

  at_kind : (k : Kind) → unwrap_or (kind_of (byte head 0)) Basic ≡ k → byte head 0 ≡ byte_of k
  at_kind k e = kind_byte (byte head 0) face.some_kind face.few_kinds ∙ ap byte_of e

  has : (t : ℕ) → (t ≡ 1 → ⊥) → 1 ≤ count t fs → 1 ≤ length (tagged t (head ∷ fs))
  has t not1 h = omega (arith, h, ap length (skip t not1), length_tagged t fs)

  form_from : Form w (sheet_from w (head ∷ fs))
  unfolding byte_of
  form_from = record {
    some_inputs = face.some_inputs;
    few_inputs = face.few_inputs;
    few_outputs = face.few_outputs;
    few_amounts = amounts_long w _ (amounts_fit w (head ∷ fs) h);
    wide_amounts = λ k lt. amounts_wide w _ k lt;
    few_states = omega (arith, length-map (tagged 3 (head ∷ fs)) (λ f. actions_at f.content), few 3 (λ e. omega arith) (λ e. omega arith));
    few_actions = λ k. actions_few w (head ∷ fs) h k;
    few_transitions = omega (arith, length-map (tagged 4 (head ∷ fs)) transition_at, few 4 (λ e. omega arith) (λ e. omega arith));
    wide_entries = λ k x lt. (entries_fit w (head ∷ fs) h k x lt).0;
    counted_entries = λ k x lt. (entries_fit w (head ∷ fs) h k x lt).1 ∙ ap (λ f. byte f 2) same;
    few_entries = λ e lt. omega (arith, served_is e, few_for acc e lt);
    few_instances = omega (arith, length-map (tagged 6 (head ∷ fs)) (λ f. byte f 0), few 6 (λ e. omega arith) (λ e. omega arith));
    few_connections = omega (arith, length-map (tagged 7 (head ∷ fs)) connection_at, few 7 (λ e. omega arith) (λ e. omega arith));
    some_states = λ k.
        let there = whole.needed 3 L.Needed.state (subst (λ b. Belongs b 3) (sym (at_kind Basic k)) L.Belongs.state) in
        omega (arith, length-map (tagged 3 (head ∷ fs)) (λ f. actions_at f.content), has 3 (λ e. omega arith) there);
    some_entries = λ k e lt. omega (arith, served_is e, whole.each (at_kind Service k) e lt);
    some_instances = λ k.
        let there = whole.needed 6 L.Needed.instance (subst (λ b. Belongs b 6) (sym (at_kind Composite k)) L.Belongs.instance) in
        omega (arith, length-map (tagged 6 (head ∷ fs)) (λ f. byte f 0), has 6 (λ e. omega arith) there);
  }

pub form_of : (w : ℕ) (bs : List ℕ) → is_ok (check_of w bs) ≡ true → Form w (sheet_of w bs)
unfolding sheet_of
form_of w bs ok =
    let l = lawful_checked w bs ok in
    let h : Headed w (l.head ∷ l.fs) = headed w (l.head ∷ l.fs) (ap (fault w) (sym l.is) ∙ no_fault w bs ok) in
    let same : h.head ≡ l.head = ap first_of (sym h.is) in
    subst (λ all. Form w (sheet_from w all)) (sym l.is) (form_from w l.head l.fs l.accepted l.heads l.whole h same)

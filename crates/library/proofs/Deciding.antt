-- Each check turns down at one place at most, and not where it passes. Assumes nothing.
use Rattle.std.proofs.Common.{◌≡◌, ℕ, ◌+◌, ◌<◌, true, List, take, is_ok, Some, Ok, Err, Result, sym, ap, ◌∙◌, subst, ap₂, subst₂, inl, inr, ⊎_elim, arith}
use Rattle.std.specs.List.{slice_get, ContainsAt as Has, AllByRecursion}
use Rattle.std.proofs.ByRecursion.{All-take}
use Rattle.std.proofs.lemmas.List.{take-take}
use Rattle.std.proofs.lemmas.Bool.{cases_order, false≢true}
use Rattle.charts.specs.Charts.{Named as NamedChart, NamedAction, NamedTransition, NamedEntry}
use Rattle.charts.specs.Naming.{says, UnnamedAt, in_state, in_transition, in_entry, First as FirstFails}
use Rattle.charts.specs.Refusals.{place as chart_place}
use Rattle.order.specs.Order.{Order, Complete, Unworkable}
use Rattle.order.proofs.Induction.{in_order}
use Rattle.sheets.specs.Sheets.{Sheet, sheet_of, offsets_of}
use Rattle.sheets.specs.declared.opened.Checked.{Checked}
use Rattle.sheets.specs.declared.refusal.Refusal.{Refusal as SheetRefusal}
use Rattle.sheets.specs.declared.words.Item.TheVariants.{State, Transition, Entry}
use Rattle.sheets.proofs.Reading.{same_some}
use Rattle.library.specs.Checks.{Verdict, turned, fine, Then, First, Never, FirstAt, Plainly, Bad, UnnamedChart}
use Rattle.library.specs.Refusals.{Told, by_library, by_sheet}
use Rattle.library.proofs.Working.{chart_passes}

-- two verdicts of a check and the rest are one
pub then_one : {X : Type 0} {F : Told → Type 0} {P : Type 0} {R : Verdict X → Type 0} → ((t u : Told) → F t → F u → t ≡ u) → ((t : Told) → F t → P → ⊥) → (P → (v w : Verdict X) → R v → R w → v ≡ w)
    → (v w : Verdict X) → Then F P R v → Then F P R w → v ≡ w
then_one one apart rest (turned t) (turned u) (inl g) (inl h) = ap turned (one t u g h)
then_one one apart rest (turned t) (turned u) (inl g) (inr h) = absurd (apart t g h.0)
then_one one apart rest (turned t) (turned u) (inr g) (inl h) = absurd (apart u h g.0)
then_one one apart rest (turned t) (turned u) (inr g) (inr h) = rest g.0 (turned t) (turned u) g.1 h.1
then_one one apart rest (turned t) (fine y) (inl g) h = absurd (apart t g h.0)
then_one one apart rest (turned t) (fine y) (inr g) h = rest g.0 (turned t) (fine y) g.1 h.1
then_one one apart rest (fine x) (turned u) g (inl h) = absurd (apart u h g.0)
then_one one apart rest (fine x) (turned u) g (inr h) = rest g.0 (fine x) (turned u) g.1 h.1
then_one one apart rest (fine x) (fine y) g h = rest g.0 (fine x) (fine y) g.1 h.1

-- one number at most is the first
pub first_one : (P : ℕ → Type 0) (j k : ℕ) → First P j → First P k → j ≡ k
first_one P j k g h =
    ⊎_elim (λ e. e) (λ apart. ⊎_elim (λ lt. absurd (h.before j lt g.holds)) (λ gt. absurd (g.before k gt h.holds)) apart) (cases_order j k)

pub first_at_one : (n : ℕ) (P : ℕ → Type 0) (t u : Told) → FirstAt n P t → FirstAt n P u → t ≡ u
first_at_one n P t u g h = g.is ∙ ap (by_library n) (first_one P g.place h.place g.first h.first) ∙ sym h.is

pub first_apart : (n : ℕ) (P : ℕ → Type 0) (t : Told) → FirstAt n P t → Never P → ⊥
first_apart n P t h never = never h.place h.first.holds

pub plainly_one : (n p : ℕ) (P : Type 0) (t u : Told) → Plainly n p P t → Plainly n p P u → t ≡ u
plainly_one n p P t u g h = g.is ∙ sym h.is

-- checks 1 and 2
abbrev refusal_in : {X E : Type 0} → E → Result X E → E
refusal_in d (Ok x) = d
refusal_in d (Err e) = e

err_same : (d e : SheetRefusal) → ◌≡◌ {A = Result Unit SheetRefusal} (Err d) (Err e) → d ≡ e
err_same d e h = ap (refusal_in d) h

pub bad_one : (r : Result Unit SheetRefusal) (t u : Told) → Bad r t → Bad r u → t ≡ u
bad_one r t u g h = g.as_told ∙ ap by_sheet (err_same g.refusal h.refusal (sym g.is ∙ h.is)) ∙ sym h.as_told

pub bad_apart : (r : Result Unit SheetRefusal) (t : Told) → Bad r t → is_ok r ≡ true → ⊥
bad_apart r t h ok = false≢true (sym (ap is_ok h.is) ∙ ok)

-- the number that cannot be worked, if one is, is one, and not all can be worked
module _ {Node : ℕ → Type 0} {leads : ℕ → ℕ → Type 0} where
  worked_in : (s : ℕ) (g : Unworkable Node leads s) (us : List ℕ) → Order Node leads us → (t : ℕ) → Has us t → (Has g.ws t → ⊥) → ⊥
  worked_in s g us order = in_order order (λ t. (Has g.ws t → ⊥) → ⊥) (λ t has node before un. let r = g.none t node un in before r.0 r.1.way r.1.unmet)

  pub unworkable_not : (s : ℕ) (ws : List ℕ) → Unworkable Node leads s → Complete Node leads ws → ⊥
  unworkable_not s ws g complete = worked_in s g ws complete.order s (complete.all s g.node) g.unworked

  pub unworkable_one : (s t : ℕ) → Unworkable Node leads s → Unworkable Node leads t → s ≡ t
  unworkable_one s t g h =
      ⊎_elim (λ e. e)
      (λ apart. ⊎_elim (λ lt. absurd (worked_in s g h.ws h.order s (h.lowest s lt g.node) g.unworked))
      (λ gt. absurd (worked_in t h g.ws g.order t (g.lowest t gt h.node) h.unworked)) apart)
      (cases_order s t)

-- a refusal's parts
pub same_told : (t u : Told) → t.number ≡ u.number → t.level ≡ u.level → t.place ≡ u.place → t ≡ u
same_told t u n l p = λ i. record { number = n i; level = l i; place = p i }

-- check 5 of a basic or a service sheet, by what the bytes say
pub data Unnamed (s : Sheet) (bs : List ℕ) (p : ℕ) : Type 0 where
  by_state : (k : ℕ) → FirstFails (AllByRecursion (NamedAction s)) s.states k → slice_get (offsets_of State bs) k ≡ Some p → Unnamed s bs p
  by_transition : (k : ℕ) → AllByRecursion (AllByRecursion (NamedAction s)) s.states → FirstFails (NamedTransition s) s.transitions k → slice_get (offsets_of Transition bs) k ≡ Some p → Unnamed s bs p
  by_entry : (k : ℕ) → AllByRecursion (AllByRecursion (NamedAction s)) s.states → AllByRecursion (NamedTransition s) s.transitions → FirstFails (NamedEntry s) s.entries k → slice_get (offsets_of Entry bs) k ≡ Some p → Unnamed s bs p

said_unnamed : (c : Checked) (p : ℕ) → UnnamedAt c p → Unnamed (says c) c.bytes.now p
said_unnamed c p (in_state k first at) = by_state k first at
said_unnamed c p (in_transition k states first at) = by_transition k states first at
said_unnamed c p (in_entry k states transitions first at) = by_entry k states transitions first at

module _ {X : Type 0} (P : X → Type 0) (xs : List X) where
  fails_apart : (k : ℕ) → FirstFails P xs k → AllByRecursion P xs → ⊥
  fails_apart k h all = h.fails (All-take P (k + 1) xs all)

  fails_low : (j k : ℕ) → j < k → FirstFails P xs j → FirstFails P xs k → ⊥
  fails_low j k lt g h = g.fails (subst (AllByRecursion P) (take-take (j + 1) k xs (omega (arith, lt))) (All-take P (j + 1) (take k xs) h.before))

  fails_one : (j k : ℕ) → FirstFails P xs j → FirstFails P xs k → j ≡ k
  fails_one j k g h = ⊎_elim (λ e. e) (λ apart. ⊎_elim (λ lt. absurd (fails_low j k lt g h)) (λ gt. absurd (fails_low k j gt h g)) apart) (cases_order j k)

-- the same number has one place
pub placed_one : (offsets : List ℕ) (j k p q : ℕ) → j ≡ k → slice_get offsets j ≡ Some p → slice_get offsets k ≡ Some q → p ≡ q
placed_one offsets j k p q e g h = same_some p q (sym g ∙ ap (slice_get offsets) e ∙ h)

unnamed_one : (s : Sheet) (bs : List ℕ) (p q : ℕ) → Unnamed s bs p → Unnamed s bs q → p ≡ q
unnamed_one s bs p q (by_state j g at) (by_state k h to) = placed_one (offsets_of State bs) j k p q (fails_one (AllByRecursion (NamedAction s)) s.states j k g h) at to
unnamed_one s bs p q (by_state j g at) (by_transition k states h to) = absurd (fails_apart (AllByRecursion (NamedAction s)) s.states j g states)
unnamed_one s bs p q (by_state j g at) (by_entry k states transitions h to) = absurd (fails_apart (AllByRecursion (NamedAction s)) s.states j g states)
unnamed_one s bs p q (by_transition j states g at) (by_state k h to) = absurd (fails_apart (AllByRecursion (NamedAction s)) s.states k h states)
unnamed_one s bs p q (by_transition j states g at) (by_transition k also h to) = placed_one (offsets_of Transition bs) j k p q (fails_one (NamedTransition s) s.transitions j k g h) at to
unnamed_one s bs p q (by_transition j states g at) (by_entry k also transitions h to) = absurd (fails_apart (NamedTransition s) s.transitions j g transitions)
unnamed_one s bs p q (by_entry j states transitions g at) (by_state k h to) = absurd (fails_apart (AllByRecursion (NamedAction s)) s.states k h states)
unnamed_one s bs p q (by_entry j states transitions g at) (by_transition k also h to) = absurd (fails_apart (NamedTransition s) s.transitions k h transitions)
unnamed_one s bs p q (by_entry j states transitions g at) (by_entry k also too h to) = placed_one (offsets_of Entry bs) j k p q (fails_one (NamedEntry s) s.entries j k g h) at to

module _ (w : ℕ) (bs : List ℕ) where
  says_is : (t : Told) (h : UnnamedChart w bs t) → says h.sheet ≡ sheet_of w bs
  says_is t h = ap₂ sheet_of h.width h.bytes

  unnamed_of : (t : Told) → UnnamedChart w bs t → Unnamed (sheet_of w bs) bs t.place
  unnamed_of t h =
      subst₂ (λ s b. Unnamed s b t.place) (says_is t h) h.bytes
      (subst (Unnamed (says h.sheet) h.sheet.bytes.now) (sym (ap (λ (x : Told). x.place) h.as_told)) (said_unnamed h.sheet (chart_place h.refusal) h.is.2))

  pub chart_one : (t u : Told) → UnnamedChart w bs t → UnnamedChart w bs u → t ≡ u
  chart_one t u g h =
      same_told t u (ap (λ (x : Told). x.number) g.as_told ∙ g.is.0 ∙ sym (ap (λ (x : Told). x.number) h.as_told ∙ h.is.0))
      (ap (λ (x : Told). x.level) g.as_told ∙ g.is.1 ∙ sym (ap (λ (x : Told). x.level) h.as_told ∙ h.is.1))
      (unnamed_one (sheet_of w bs) bs t.place u.place (unnamed_of t g) (unnamed_of u h))

  pub chart_apart : (t : Told) → UnnamedChart w bs t → NamedChart (sheet_of w bs) → ⊥
  chart_apart t h named = chart_passes h.sheet (subst NamedChart (sym (says_is t h)) named) h.refusal h.is

-- A call has one answer and one book after it. Assumes nothing.
use Rattle.std.proofs.Common.{◌≡◌, List, length, refl, ap, subst, arith}
use Rattle.costs.specs.Lists.{Computes}
use Rattle.costs.specs.declared.entry.Entry.{Entry}
use Rattle.sheets.specs.Sheets.{sheet_of}
use Rattle.library.specs.Books.{Rules, Book, at, with_block, with_work}
use Rattle.library.specs.Checks.{Sizes, Lent, blocks_of, Verdict, turned, fine}
use Rattle.library.specs.Memory.{BookFacts}
use Rattle.library.specs.Refusals.{Told}
use Rattle.library.specs.Steps.{Ask, Reply, Step, previewed, shown, refused, no_entry, enters, no_preview, previews, no_retime, retimes, no_block, stays, no_rework, reworks, no_card, shows}
use Rattle.library.specs.Theorems.{OneAnswer, Fixed}
use Rattle.library.proofs.Exactness.{working_exact}
use Rattle.library.proofs.Soundness.{fit}
use Rattle.library.proofs.Fixing.{entering_one, previewing_one, reworking_one, retiming_one, showing_one}

-- what a verdict says
abbrev told_in : {X : Type 0} → Told → Verdict X → Told
told_in d (turned t) = t
told_in d (fine x) = d

abbrev answer_in : {X : Type 0} → X → Verdict X → X
answer_in d (turned t) = d
answer_in d (fine x) = x

abbrev IsFine : {X : Type 0} → Verdict X → Type 0
IsFine (turned t) = ⊥
IsFine (fine x) = Unit {0}

module _ {X : Type 0} where
  told_same : (t u : Told) → ◌≡◌ {A = Verdict X} (turned t) (turned u) → t ≡ u
  told_same t u h = ap (told_in t) h

  answer_same : (x y : X) → fine x ≡ fine y → x ≡ y
  answer_same x y h = ap (answer_in x) h

  not_both : (t : Told) (x : X) → fine x ≡ turned t → ⊥
  not_both t x h = subst IsFine h tt

one_answer_of : {M : Type 0} (rules : Rules M) (f : List (Entry M) → List (Entry M)) → Computes rules.gives f → (b : Book M) → BookFacts rules b → (sizes : Sizes) (ask : Ask) (lent : Lent) (r q : Reply M) (d e : Book M)
    → Step rules sizes b ask lent r d → Step rules sizes b ask lent q e → (r ≡ q) × (d ≡ e)
one_answer_of rules f computes b facts sizes _ _ _ _ _ _ (no_entry bs lent t g) (no_entry _ _ u h) =
    (ap refused (told_same t u (entering_one rules f computes b facts sizes lent bs (turned t) (turned u) g h)), refl)
one_answer_of rules f computes b facts sizes _ _ _ _ _ _ (no_entry bs lent t g) (enters _ _ c h) = absurd (not_both t c (entering_one rules f computes b facts sizes lent bs (fine c) (turned t) h g))
one_answer_of rules f computes b facts sizes _ _ _ _ _ _ (enters bs lent c g) (no_entry _ _ t h) = absurd (not_both t c (entering_one rules f computes b facts sizes lent bs (fine c) (turned t) g h))
one_answer_of rules f computes b facts sizes _ _ _ _ _ _ (enters bs lent c g) (enters _ _ k h) =
    (refl, ap (with_block b (sheet_of rules.wide bs) (length bs)) (answer_same c k (entering_one rules f computes b facts sizes lent bs (fine c) (fine k) g h)))
one_answer_of rules f computes b facts sizes _ _ _ _ _ _ (no_preview w bs lent t g) (no_preview _ _ _ u h) =
    (ap refused (told_same t u (previewing_one rules f computes b facts lent w bs (turned t) (turned u) g h)), refl)
one_answer_of rules f computes b facts sizes _ _ _ _ _ _ (no_preview w bs lent t g) (previews _ _ _ c h) = absurd (not_both t c (previewing_one rules f computes b facts lent w bs (fine c) (turned t) h g))
one_answer_of rules f computes b facts sizes _ _ _ _ _ _ (previews w bs lent c g) (no_preview _ _ _ t h) = absurd (not_both t c (previewing_one rules f computes b facts lent w bs (fine c) (turned t) g h))
one_answer_of rules f computes b facts sizes _ _ _ _ _ _ (previews w bs lent c g) (previews _ _ _ k h) =
    (ap previewed (answer_same c k (previewing_one rules f computes b facts lent w bs (fine c) (fine k) g h)), refl)
one_answer_of rules f computes b facts sizes _ _ _ _ _ _ (no_retime n k new lent t g) (no_retime _ _ _ _ u h) =
    (ap refused (told_same t u (retiming_one rules f computes b facts n k new (turned t) (turned u) g h)), refl)
one_answer_of rules f computes b facts sizes _ _ _ _ _ _ (no_retime n k new lent t g) (retimes _ _ _ _ h) = absurd (not_both t tt (retiming_one rules f computes b facts n k new (fine tt) (turned t) h g))
one_answer_of rules f computes b facts sizes _ _ _ _ _ _ (retimes n k new lent g) (no_retime _ _ _ _ t h) = absurd (not_both t tt (retiming_one rules f computes b facts n k new (fine tt) (turned t) g h))
one_answer_of rules f computes b facts sizes _ _ _ _ _ _ (retimes n k new lent g) (retimes _ _ _ _ h) = (refl, refl)
one_answer_of rules f computes b facts sizes _ _ _ _ _ _ (no_block n lent high) (no_block _ _ also) = (refl, refl)
one_answer_of rules f computes b facts sizes _ _ _ _ _ _ (no_block n lent high) (stays _ _ cur) = absurd (omega (arith, high, cur.0))
one_answer_of rules f computes b facts sizes _ _ _ _ _ _ (no_block n lent high) (no_rework _ _ t lt old h) = absurd (omega (arith, high, lt))
one_answer_of rules f computes b facts sizes _ _ _ _ _ _ (no_block n lent high) (reworks _ _ c lt old h) = absurd (omega (arith, high, lt))
one_answer_of rules f computes b facts sizes _ _ _ _ _ _ (stays n lent cur) (no_block _ _ high) = absurd (omega (arith, high, cur.0))
one_answer_of rules f computes b facts sizes _ _ _ _ _ _ (stays n lent cur) (stays _ _ also) = (refl, refl)
one_answer_of rules f computes b facts sizes _ _ _ _ _ _ (stays n lent cur) (no_rework _ _ t lt old h) = absurd (cur.1 old)
one_answer_of rules f computes b facts sizes _ _ _ _ _ _ (stays n lent cur) (reworks _ _ c lt old h) = absurd (cur.1 old)
one_answer_of rules f computes b facts sizes _ _ _ _ _ _ (no_rework n lent t lt old g) (no_block _ _ high) = absurd (omega (arith, high, lt))
one_answer_of rules f computes b facts sizes _ _ _ _ _ _ (no_rework n lent t lt old g) (stays _ _ cur) = absurd (cur.1 old)
one_answer_of rules f computes b facts sizes _ _ _ _ _ _ (no_rework n lent t lt old g) (no_rework _ _ u also too h) =
    (ap refused (told_same t u (reworking_one rules f computes b facts lent n lt (turned t) (turned u) g h)), refl)
one_answer_of rules f computes b facts sizes _ _ _ _ _ _ (no_rework n lent t lt old g) (reworks _ _ c also too h) = absurd (not_both t c (reworking_one rules f computes b facts lent n lt (fine c) (turned t) h g))
one_answer_of rules f computes b facts sizes _ _ _ _ _ _ (reworks n lent c lt old g) (no_block _ _ high) = absurd (omega (arith, high, lt))
one_answer_of rules f computes b facts sizes _ _ _ _ _ _ (reworks n lent c lt old g) (stays _ _ cur) = absurd (cur.1 old)
one_answer_of rules f computes b facts sizes _ _ _ _ _ _ (reworks n lent c lt old g) (no_rework _ _ t also too h) = absurd (not_both t c (reworking_one rules f computes b facts lent n lt (fine c) (turned t) g h))
one_answer_of rules f computes b facts sizes _ _ _ _ _ _ (reworks n lent c lt old g) (reworks _ _ k also too h) =
    (refl, ap (with_work b n) (answer_same c k (reworking_one rules f computes b facts lent n lt (fine c) (fine k) g h)))
one_answer_of rules f computes b facts sizes _ _ _ _ _ _ (no_card n i lent t g) (no_card _ _ _ u h) = (ap refused (told_same t u (showing_one rules f computes b facts lent n i (turned t) (turned u) g h)), refl)
one_answer_of rules f computes b facts sizes _ _ _ _ _ _ (no_card n i lent t g) (shows _ _ _ es h) = absurd (not_both t es (showing_one rules f computes b facts lent n i (fine es) (turned t) h g))
one_answer_of rules f computes b facts sizes _ _ _ _ _ _ (shows n i lent es g) (no_card _ _ _ t h) = absurd (not_both t es (showing_one rules f computes b facts lent n i (fine es) (turned t) g h))
one_answer_of rules f computes b facts sizes _ _ _ _ _ _ (shows n i lent es g) (shows _ _ _ fs h) =
    (ap shown (answer_same es fs (showing_one rules f computes b facts lent n i (fine es) (fine fs) g h)), refl)

-- the step of a call fixes its answer and the book after it
pub one_answer : {M : Type 0} (rules : Rules M) → OneAnswer rules
one_answer rules = λ f computes b facts sizes ask lent r q d e. one_answer_of rules f computes b facts sizes ask lent r q d e

-- what a book leaves open: nothing, where the reducer computes a function
pub fixed : {M : Type 0} (rules : Rules M) (b : Book M) → BookFacts rules b → Fixed rules b
fixed rules b facts = record {
  one_answer = λ f computes sizes ask lent r q d e. one_answer_of rules f computes b facts sizes ask lent r q d e;
  exact = λ n cur.
      let here = facts.blocks n cur.0 in
      working_exact rules (blocks_of b) (at b n).sheet here.form (fit rules b facts n cur).narrow here.named (fine (at b n).card) (here.card cur.1);
}

-- One turn of the check of the grammar. Assumes nothing.
use Rattle.std.proofs.Common.{◌≡◌, ℕ, true, false, cond, List, [], ◌∷◌, ◌++◌, length, get_or, Some, None, Option, MatchOption, sym, ap, ◌∙◌, subst, arith}
use Rattle.std.specs.Iterator.{YieldsFirstBy}
use Rattle.std.proofs.lemmas.List.{get_or-replicate}
use Rattle.std.proofs.lemmas.Bool.{cond-true, cond-false}
use Rattle.sheets.specs.Frames.{Raw, size, fields, laid}
use Rattle.sheets.specs.Parts.{raw}
use Rattle.sheets.specs.Places.{place, to_come}
use Rattle.sheets.specs.declared.fields.Placed.{Placed}
use Rattle.sheets.specs.declared.fields.Fields.{Fields}
use Rattle.sheets.specs.Grammar.{walk, fault}
use Rattle.sheets.specs.Seen.{allows_in, complete_in, Noted, Started}
use Rattle.sheets.specs.declared.seen.Seen.{Seen}
use Rattle.sheets.proofs.Walk.{Next, next, none_left}
use Rattle.sheets.proofs.Rules.{Sums, allows_is, complete_is, sums_more}

-- The fields before `at` may follow one another, s remembers them, and those that are left, each with its offset, decide.
pub record Sofar (w : ℕ) (bs : List ℕ) (left : List (ℕ × Raw)) (at : ℕ) (s : Seen) : Type 0 where
  pub head : Raw
  pub fs : List Raw
  pub more : List Raw
  pub is : laid at more ≡ left
  pub sums : Sums head fs s
  pub goes : walk w head fs at more ≡ fault w (fields bs)

-- the check has begun, or the fields are refused at the first
abbrev Began : ℕ → List ℕ → List (ℕ × Raw) → Option Seen → Type 0
Began w bs left o = MatchOption o (fault w (fields bs) ≡ Some 0) (Sofar w bs left 6)

started : (w : ℕ) (bs : List ℕ) (x : Placed) (left : List (ℕ × Raw)) (o : Option Seen) → Next 0 (fields bs) x left → Started (raw x.part) o → Began w bs left o
started w bs x left None t h = ap (fault w) t.is ∙ cond-false _ _ _ h
started w bs x left (Some s) t h =
    let six : size (raw x.part) ≡ 6 = omega (arith, h.7) in
    let end : x.end ≡ 6 = omega (arith, t.end, six) in
    record {
      head = raw x.part;
      fs = [];
      more = t.after;
      is = ap (λ n. laid n t.after) (sym end) ∙ sym t.left;
      sums = record {
        kind = h.1;
        inputs = h.2;
        outputs = h.3;
        last = h.4;
        eight = ap length h.5;
        eight' = ap length h.6;
        counts = λ i lt not5. ap (λ l. get_or l i 0) h.5 ∙ get_or-replicate 8 i 0 0 lt;
        entries = λ e lt. ap (λ l. get_or l e 0) h.6 ∙ get_or-replicate 8 e 0 0 (omega (arith, s.few));
      };
      goes = sym (ap (fault w) t.is ∙ cond-true _ _ _ h.0 ∙ ap (λ n. walk w (raw x.part) [] n t.after) six);
    }

-- what `next` gives of all fields, and what the check makes of it
module _ (w : ℕ) (bs : List ℕ) (s t : Fields) (n : Option Placed) (o : Option Seen) (all : to_come s ≡ laid 0 (fields bs)) (gives : YieldsFirstBy place to_come s n t) (made : MatchOption n (o ≡ None) (λ x. Started (raw x.part) o)) where
  began : Began w bs (to_come t) o
  began = of n gives made where
    of : (n : Option Placed) → YieldsFirstBy place to_come s n t → MatchOption n (o ≡ None) (λ x. Started (raw x.part) o) → Began w bs (to_come t) o
    of None gives made =
        subst (Began w bs (to_come t)) (sym made)
        (ap (fault w) (none_left 0 (fields bs) (sym all ∙ gives.0)))
    of (Some x) gives made = started w bs x (to_come t) o (next 0 (fields bs) x (to_come t) (sym all ∙ gives)) made

  pub no_start : o ≡ None → fault w (fields bs) ≡ Some 0
  no_start e = subst (Began w bs (to_come t)) e began

  pub start : (s : Seen) → o ≡ Some s → Sofar w bs (to_come t) 6 s
  start s e = subst (Began w bs (to_come t)) e began

module _ (w : ℕ) (bs : List ℕ) (left : List (ℕ × Raw)) (at : ℕ) (s : Seen) (so : Sofar w bs left at s) where
  module _ (x : Placed) (rest : List (ℕ × Raw)) (gives : left ≡ place x ∷ rest) where
    t : Next at so.more x rest
    t = next at so.more x rest (so.is ∙ gives)

    pub again : (n : Seen) → allows_in w s (raw x.part) ≡ true → Noted s (raw x.part) n → Sofar w bs rest x.end n
    again n ok k =
        record {
          head = so.head;
          fs = so.fs ++ raw x.part ∷ [];
          more = t.after;
          is = sym t.left;
          sums = sums_more so.head so.fs s so.sums w (raw x.part) n k ok;
          goes = ap (λ n. walk w so.head (so.fs ++ raw x.part ∷ []) n t.after) t.end ∙ sym (sym so.goes ∙ ap (walk w so.head so.fs at) t.is ∙ cond-true _ _ _ (sym (allows_is so.head so.fs s so.sums w (raw x.part)) ∙ ok));
        }

    pub stopped : allows_in w s (raw x.part) ≡ false → fault w (fields bs) ≡ Some x.at
    stopped no' =
        sym so.goes ∙ ap (walk w so.head so.fs at) t.is
        ∙ cond-false _ _ _ (sym (allows_is so.head so.fs s so.sums w (raw x.part)) ∙ no')
        ∙ ap Some (sym t.here)

  pub ended : left ≡ [] → fault w (fields bs) ≡ cond (complete_in s) None (Some at)
  ended e =
      sym so.goes ∙ ap (walk w so.head so.fs at) (none_left at so.more (so.is ∙ e))
      ∙ ap (λ b. cond b None (Some at)) (sym (complete_is so.head so.fs s so.sums))

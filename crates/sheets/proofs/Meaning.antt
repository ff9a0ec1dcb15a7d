-- What the walk over the fields means, and that it misses nothing. Assumes nothing.
use Rattle.std.proofs.Common.{◌≡◌, ℕ, ◌+◌, Bool, true, false, cond, List, [], ◌∷◌, ◌++◌, is_ok, Some, None, Option, sym, refl, ap, ◌∙◌, subst, ⊎_elim, append_assoc, append-nil, arith}
use Rattle.std.proofs.lemmas.Bool.{cases_Bool, cond-true, cond-false, false≢true}
use Rattle.std.proofs.lemmas.Bool.Decides.{not_from_Decides}
use Rattle.sheets.specs.Frames.{Raw, size, fields, span}
use Rattle.sheets.specs.Grammar.{heads_of, follows, complete, walk, fault}
use Rattle.sheets.specs.Refusals.{refused_at, check_of}
use Rattle.sheets.specs.Lawful.{Heads, Accepts, nothing, one_more, Lawful, Faulty, empty, no_head, cannot_follow, more_needed, Answered, Grammatical}
use Rattle.sheets.proofs.Tables.{heads_decides}
use Rattle.sheets.proofs.Follow.{follows_decides, complete_decides}

span_push : (fs : List Raw) (f : Raw) → span (fs ++ f ∷ []) ≡ span fs + size f
span_push [] f = omega arith
span_push (g ∷ fs) f = omega (arith, span_push fs f)

false_from_not : {P : Type 0} (b : Bool) → (b ≡ true → P) → (P → ⊥) → b ≡ false
false_from_not true k n = absurd (n (k refl))
false_from_not false k n = refl

-- what an answer says of all the fields
abbrev Means : ℕ → List Raw → Option ℕ → Type 0
Means w all None = Lawful w all
Means w all (Some p) = Faulty w all p

module _ (w : ℕ) (head : Raw) (ok : Heads head) where
  walk_means : (before : List Raw) (at : ℕ) (fs : List Raw) → Accepts w head before → at ≡ span (head ∷ before) → Means w (head ∷ (before ++ fs)) (walk w head before at fs)
  walk_means before at [] acc is =
      let all : head ∷ (before ++ []) ≡ head ∷ before = ap (λ l. head ∷ l) (append-nil before) in
      let d = complete_decides head before ok in
      ⊎_elim
      (λ whole. subst (Means w (head ∷ (before ++ []))) (sym (cond-true _ _ _ whole)) (record { head = head; fs = before; is = all; heads = ok; accepted = acc; whole = d.0 whole }))
      (λ part. subst (Means w (head ∷ (before ++ []))) (sym (cond-false _ _ _ part)) (more_needed head before all ok acc (not_from_Decides _ d part) (is ∙ ap span (sym all))))
      (cases_Bool (complete head before))
  walk_means before at (f ∷ fs) acc is =
      let d = follows_decides w head before f in
      ⊎_elim
      (λ may. subst (Means w (head ∷ (before ++ f ∷ fs))) (sym (cond-true _ _ _ may))
      (subst (λ l. Means w (head ∷ l) (walk w head (before ++ f ∷ []) (at + size f) fs)) (append_assoc before (f ∷ []) fs)
      (walk_means (before ++ f ∷ []) (at + size f) fs (one_more before f acc (d.0 may)) (omega (arith, is, span_push before f)))))
      (λ may-not. subst (Means w (head ∷ (before ++ f ∷ fs))) (sym (cond-false _ _ _ may-not)) (cannot_follow head before f fs refl ok acc (not_from_Decides _ d may-not) is))
      (cases_Bool (follows w head before f))

fault_means : (w : ℕ) (all : List Raw) → Means w all (fault w all)
fault_means w [] = empty refl refl
fault_means w (head ∷ fs) =
    let d = heads_decides head in
    ⊎_elim
    (λ ok. subst (Means w (head ∷ fs)) (sym (cond-true _ _ _ ok)) (walk_means w head (d.0 ok) [] (size head) fs nothing (omega arith)))
    (λ bad. subst (Means w (head ∷ fs)) (sym (cond-false _ _ _ bad)) (no_head head fs refl (not_from_Decides _ d bad) refl))
    (cases_Bool (heads_of head))

-- the walk passes over what may follow
walk_past : (w : ℕ) (head : Raw) {fs : List Raw} → Accepts w head fs → (at : ℕ) (rest : List Raw) → walk w head [] at (fs ++ rest) ≡ walk w head fs (at + span fs) rest
walk_past w head nothing at rest = ap (λ n. walk w head [] n rest) (omega arith)
walk_past w head (one_more fs f acc ok) at rest =
    ap (walk w head [] at) (append_assoc fs (f ∷ []) rest)
    ∙ walk_past w head acc at (f ∷ rest)
    ∙ cond-true _ _ _ ((follows_decides w head fs f).1 ok)
    ∙ ap (λ n. walk w head (fs ++ f ∷ []) n rest) (omega (arith, span_push fs f))

module _ (w : ℕ) (head : Raw) (ok : Heads head) where
  fault_past : (fs rest : List Raw) → Accepts w head fs → fault w (head ∷ (fs ++ rest)) ≡ walk w head fs (size head + span fs) rest
  fault_past fs rest acc = cond-true _ _ _ ((heads_decides head).1 ok) ∙ walk_past w head acc (size head) rest

  fault_end : (fs : List Raw) → Accepts w head fs → fault w (head ∷ fs) ≡ cond (complete head fs) None (Some (size head + span fs))
  fault_end fs acc = ap (λ l. fault w (head ∷ l)) (sym (append-nil fs)) ∙ fault_past fs [] acc

no_fault : (w : ℕ) (all : List Raw) → Lawful w all → fault w all ≡ None
no_fault w all l =
    ap (fault w) l.is ∙ fault_end w l.head l.heads l.fs l.accepted
    ∙ cond-true _ _ _ ((complete_decides l.head l.fs l.heads).1 l.whole)

fault_at : (w : ℕ) (all : List Raw) (p : ℕ) → Faulty w all p → fault w all ≡ Some p
fault_at w all p (empty e z) = ap (fault w) e ∙ ap Some (sym z)
fault_at w all p (no_head head fs e bad z) = ap (fault w) e ∙ cond-false _ _ _ (false_from_not (heads_of head) (heads_decides head).0 bad) ∙ ap Some (sym z)
fault_at w all p (cannot_follow head a f b e ok acc bad z) =
    ap (fault w) e ∙ fault_past w head ok a (f ∷ b) acc ∙ cond-false _ _ _ (false_from_not (follows w head a f) (follows_decides w head a f).0 bad) ∙ ap Some (sym z)
fault_at w all p (more_needed head fs e ok acc bad z) =
    ap (fault w) e ∙ fault_end w head ok fs acc ∙ cond-false _ _ _ (false_from_not (complete head fs) (complete_decides head fs ok).0 bad) ∙ ap Some (ap span (sym e) ∙ sym z)

answered : (w : ℕ) (bs : List ℕ) (o : Option ℕ) → Means w (fields bs) o → Answered w bs (refused_at o)
answered w bs None m = m
answered w bs (Some p) m = (refl, refl, m)

pub check_means : (w : ℕ) (bs : List ℕ) → Grammatical w bs (check_of w bs)
unfolding check_of
check_means w bs = record {
  sound = answered w bs (fault w (fields bs)) (fault_means w (fields bs));
  accepts = λ l. ap refused_at (no_fault w (fields bs) l);
  refuses = λ p f. ap refused_at (fault_at w (fields bs) p f);
}

-- a checked sheet is lawful
pub lawful_checked : (w : ℕ) (bs : List ℕ) → is_ok (check_of w bs) ≡ true → Lawful w (fields bs)
unfolding check_of
lawful_checked w bs ok = of_answer (fault w (fields bs)) (fault_means w (fields bs)) ok where
  of_answer : (o : Option ℕ) → Means w (fields bs) o → is_ok (refused_at o) ≡ true → Lawful w (fields bs)
  of_answer None m ok = m
  of_answer (Some p) m ok = absurd (false≢true ok)

-- What the check remembers is what the grammar asks. Assumes nothing.
use Rattle.std.proofs.Common.{◌≡◌, ℕ, zero, suc, ◌+◌, ◌<◌, ◌≤◌, Bool, true, false, cond, ◌&&◌, eqb, ltb, leb, List, [], ◌∷◌, ◌++◌, length, get_or, take, sym, refl, ap, ◌∙◌, ⊎_elim, add-one, arith}
use Rattle.std.proofs.lemmas.List.{length-set, get_or-set_same, get_or-set_other}
use Rattle.std.specs.List.{list_all}
use Rattle.std.proofs.lemmas.List.Folds.{list_all_more}
use Rattle.std.proofs.Math.Bool.{and_comm}
use Rattle.std.proofs.lemmas.Bool.{cases_eq, cases_lt, and_parts, and_from, and_left, and_right, cond-true, cond-false, eq-eqb, ne_eqb, lt-ltb, le-ltb, leb-true}
use Rattle.std.proofs.lemmas.Bool.Decides.{nat_tests}
use Rattle.sheets.specs.Frames.{Raw}
use Rattle.sheets.specs.Grammar.{byte, count, entries, highest, lower, first_is, room, follows, each_event, complete, most_of}
use Rattle.sheets.specs.Tags.{kind_number}
use Rattle.sheets.specs.Seen.{lower_in, room_in, allows_in, each_in, complete_in, more_at, Noted}
use Rattle.sheets.specs.declared.seen.Seen.{Seen}

pub each_all : (n : ℕ) (es : List ℕ) → n ≤ length es → list_all (leb 1) (take n es) ≡ each_in n es
each_all zero es k = refl
each_all (suc n) es k =
    ap (λ m. list_all (leb 1) (take m es)) (sym (add-one n)) ∙ list_all_more (leb 1) es n 0 (omega arith)
    ∙ and_comm (list_all (leb 1) (take n es)) (leb 1 (get_or es n 0)) ∙ ap (λ b. leb 1 (get_or es n 0) && b) (each_all n es (omega arith))

pub count_push : (t : ℕ) (fs : List Raw) (f : Raw) → count t (fs ++ f ∷ []) ≡ count t fs + cond (eqb f.tag t) 1 0
count_push t [] f = omega arith
count_push t (g ∷ fs) f = omega (arith, count_push t fs f)

pub entries_push : (e : ℕ) (fs : List Raw) (f : Raw) → entries e (fs ++ f ∷ []) ≡ entries e fs + cond (eqb f.tag 5 && eqb (byte f 0) e) 1 0
entries_push e [] f = omega arith
entries_push e (g ∷ fs) f = omega (arith, entries_push e fs f)

highest_push : (fs : List Raw) (f : Raw) → highest fs ≤ f.tag → highest (fs ++ f ∷ []) ≡ f.tag
highest_push [] f h = omega arith
highest_push (g ∷ fs) f h = omega (arith, highest_push fs f (omega arith))

-- one more at i
more_count : (xs : List ℕ) (i t : ℕ) → t < length xs → get_or (more_at xs i) t 0 ≡ get_or xs t 0 + cond (eqb i t) 1 0
more_count xs i t lt =
    ⊎_elim
    (λ same. rw (eq-eqb i t same) (rw same (get_or-set_same xs t _ 0 lt)))
    (λ other. rw (ne_eqb i t other) (get_or-set_other xs i t _ 0 (λ e. other (sym e)) ∙ omega arith))
    (cases_eq i t)

counts_more : (xs ys : List ℕ) (tag : ℕ) → ys ≡ cond (eqb tag 5) xs (more_at xs tag) → (t : ℕ) → t < length xs → (t ≡ 5 → ⊥) → get_or ys t 0 ≡ get_or xs t 0 + cond (eqb tag t) 1 0
counts_more xs ys tag is t lt not5 =
    ⊎_elim
    (λ five. let ys-is = is ∙ cond-true _ _ _ (eq-eqb tag 5 five) in rw (ys-is, ne_eqb tag t (λ e. not5 (sym e ∙ five))) (omega arith))
    (λ other. let ys-is = is ∙ cond-false _ _ _ (ne_eqb tag 5 other) in rw ys-is (more_count xs tag t lt))
    (cases_eq tag 5)

entries_more : (xs ys : List ℕ) (tag b inputs : ℕ) → ys ≡ cond (eqb tag 5 && ltb b inputs) (more_at xs b) xs → (e : ℕ) → e < length xs → e < inputs → get_or ys e 0 ≡ get_or xs e 0 + cond (eqb tag 5 && eqb b e) 1 0
entries_more xs ys tag b inputs is e lt in' =
    ⊎_elim
    (λ five.
    ⊎_elim
    (λ low. let ys-is : ys ≡ more_at xs b = is ∙ cond-true _ _ _ (and_from _ _ (eq-eqb tag 5 five) (lt-ltb b inputs low)) in rw (ys-is, eq-eqb tag 5 five) (more_count xs b e lt))
    (λ high. let ys-is : ys ≡ xs = is ∙ cond-false _ _ _ (and_right _ _ (le-ltb b inputs high)) in rw (ys-is, ne_eqb b e (λ s. omega arith), eq-eqb tag 5 five) (omega arith))
    (cases_lt b inputs))
    (λ other. let ys-is : ys ≡ xs = is ∙ cond-false _ _ _ (and_left _ _ (ne_eqb tag 5 other)) in rw (ys-is, ne_eqb tag 5 other) (omega arith))
    (cases_eq tag 5)

same_long : (b : Bool) (xs : List ℕ) (i : ℕ) → (length (cond b xs (more_at xs i)) ≡ length xs) × (length (cond b (more_at xs i) xs) ≡ length xs)
same_long true xs i = (refl, length-set xs i _)
same_long false xs i = (length-set xs i _, refl)

-- s remembers the interface and the fields after it
pub record Sums (head : Raw) (fs : List Raw) (s : Seen) : Type 0 where
  pub kind : kind_number s.kind ≡ byte head 0
  pub inputs : s.inputs ≡ byte head 1
  pub outputs : s.outputs ≡ byte head 2
  pub last : s.last ≡ highest fs
  pub eight : length s.counts ≡ 8
  pub eight' : length s.entries ≡ 8
  pub counts : (t : ℕ) → t < 8 → (t ≡ 5 → ⊥) → get_or s.counts t 0 ≡ count t fs
  pub entries : (e : ℕ) → e < s.inputs → get_or s.entries e 0 ≡ entries e fs

module _ (head : Raw) (fs : List Raw) (s : Seen) (h : Sums head fs s) where
  lower_is : (t : ℕ) → lower_in s t ≡ lower t fs
  lower_is t =
      let two = h.counts 2 (omega arith) (λ e. omega arith) in
      let three = h.counts 3 (omega arith) (λ e. omega arith) in
      let six = h.counts 6 (omega arith) (λ e. omega arith) in
      rw (two, three, six)

  first_same : (bs : List ℕ) (p q : ℕ → Bool) → ((e : ℕ) → p e ≡ q e) → first_is bs p ≡ first_is bs q
  first_same [] p q k = refl
  first_same (b ∷ bs) p q k = k b

  event_same : (e : ℕ) → cond (ltb e s.inputs) (ltb (get_or s.entries e 0) 16) true ≡ cond (ltb e (byte head 1)) (ltb (entries e fs) 16) true
  event_same e =
      ⊎_elim
      (λ lt. rw (← h.inputs, h.entries e lt))
      (λ ge. rw (← h.inputs, le-ltb e s.inputs ge))
      (cases_lt e s.inputs)

  none_past : (t n : ℕ) → 8 ≤ t → ltb n (most_of t) ≡ false
  none_past t n k = grind (arith, nat_tests)

  room_is : (f : Raw) → room_in s f ≡ room (byte head 1) fs f
  room_is f =
      ⊎_elim
      (λ five. rw (eq-eqb f.tag 5 five) (first_same f.content _ _ event_same))
      (λ not5.
      ⊎_elim
      (λ lt. rw (ne_eqb f.tag 5 not5, lt-ltb f.tag 8 lt, h.counts f.tag lt not5))
      (λ ge. rw (ne_eqb f.tag 5 not5, le-ltb f.tag 8 ge, none_past f.tag (count f.tag fs) ge))
      (cases_lt f.tag 8))
      (cases_eq f.tag 5)

  pub allows_is : (w : ℕ) (f : Raw) → allows_in w s f ≡ follows w head fs f
  allows_is w f = rw (h.kind, h.outputs, h.last, lower_is f.tag, room_is f)

  each_is : (n : ℕ) → n ≤ s.inputs → each_in n s.entries ≡ each_event n fs
  each_is zero k = refl
  each_is (suc n) k = rw (h.entries n (omega arith), each_is n (omega arith))

  pub complete_is : complete_in s ≡ complete head fs
  complete_is =
      let two = h.counts 2 (omega arith) (λ e. omega arith) in
      let three = h.counts 3 (omega arith) (λ e. omega arith) in
      let six = h.counts 6 (omega arith) (λ e. omega arith) in
      rw (two, three, six, each_is s.inputs (omega arith), h.kind, h.inputs)

  pub sums_more : (w : ℕ) (f : Raw) (n : Seen) → Noted s f n → allows_in w s f ≡ true → Sums head (fs ++ f ∷ []) n
  sums_more w f n k ok =
      let upto : leb s.last f.tag ≡ true = (and_parts _ _ (and_parts _ _ (and_parts _ _ ok).0).0).1 in
      let above : s.last ≤ f.tag = leb-true s.last f.tag upto in
      record {
        kind = ap kind_number k.kind ∙ h.kind;
        inputs = k.inputs ∙ h.inputs;
        outputs = k.outputs ∙ h.outputs;
        last = k.last ∙ sym (highest_push fs f (omega (arith, h.last)));
        eight = ap length k.counts ∙ (same_long (eqb f.tag 5) s.counts f.tag).0 ∙ h.eight;
        eight' = ap length k.entries ∙ (same_long _ s.entries (byte f 0)).1 ∙ h.eight';
        counts = λ t lt not5. omega (arith, counts_more s.counts n.counts f.tag k.counts t (omega (arith, h.eight)) not5, h.counts t lt not5, count_push t fs f);
        entries = λ e lt.
            let low : e < s.inputs = omega (arith, k.inputs) in
            omega (arith, entries_more s.entries n.entries f.tag (byte f 0) s.inputs k.entries e (omega (arith, h.eight', s.few)) low, h.entries e low, entries_push e fs f);
      }

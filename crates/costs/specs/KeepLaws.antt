-- What keep keeps. Assumes nothing.
use Rattle.std.specs.Prelude.{◌≡◌, ℕ, ◌+◌, ◌<◌, ◌≤◌, Bool, true, false, cond, not, ◌&&◌, ◌||◌, ◌⊎◌, List, [], ◌∷◌, ◌++◌, length, take, drop, filter, slice_index_or, slice_set}
use Rattle.std.proofs.Common.{◌∙◌, arith}
use Rattle.std.proofs.Math.Path.{sym, ap, subst, refl}
use Rattle.std.proofs.Math.Logic.{inl, inr, ⊎_elim}
use Rattle.std.specs.List.{AllByRecursion, list_any as any}
use Rattle.std.proofs.lemmas.List.{append-nil, append_assoc, length-append, length-take, length-drop, take_more, take_more_set, take-append-le, drop-set-lt}
use Rattle.std.proofs.lemmas.List.Folds.{list_any-append}
use Rattle.std.proofs.lemmas.Slice.{drop-append-drop}
use Rattle.std.proofs.Math.Bool.{and-true}
use Rattle.std.proofs.lemmas.Bool.{and_left, and_right, and_from, and_parts, not_from_true, not_from_false, not-true, cases_Bool, both_ways, cond_both}
use Rattle.costs.specs.Amounts.{Amounts, Lawful}
use Rattle.costs.specs.Entries.{entry_ops}
use Rattle.costs.specs.Lists.{Among, CoveredBy, Meaning, Selects, By, Sound}
use Rattle.costs.specs.Reducers.{beats, equal, stays, kept_after, kept}
use Rattle.costs.specs.AnyLaws.{any_or, any_same, any_push, any_none, any_not, any_has, any_at}
use Rattle.costs.specs.EntryLaws.{entry_lawful}
use Rattle.costs.specs.ListLaws.{merged_covers, covered_some}
use Rattle.costs.specs.Members.{one_among, all_among}

cond_append : {X : Type 0} (b : Bool) (y : X) (k c : List X) → cond b (y ∷ (k ++ c)) (k ++ c) ≡ cond b (y ∷ k) k ++ c
cond_append true y k c = refl
cond_append false y k c = refl

cond_length : {X : Type 0} (b : Bool) (y : X) (k : List X) (n : ℕ) → length k ≤ n → length (cond b (y ∷ k) k) ≤ n + 1
cond_length true y k n h = omega arith
cond_length false y k n h = omega arith

cond_among : {X : Type 0} (m : X) (b : Bool) (y : X) (k : List X) → Among m k → Among m (cond b (y ∷ k) k)
cond_among m true y k h = inr h
cond_among m false y k h = h

-- y stays where none of the whole list beats it, the one more does not, and none before equals it
pick : {X : Type 0} (p : X → Bool) (a b c : Bool) (y : X) (k : List X) → p y ≡ not b → cond (not (a || (b || false)) && not c) (y ∷ filter p k) (filter p k) ≡ filter p (cond (not a && not c) (y ∷ k) k)
pick p true b c y k e = refl
pick p false true true y k e = refl
pick p false true false y k e = sym (ap (λ t. cond t (y ∷ filter p k) (filter p k)) e)
pick p false false true y k e = refl
pick p false false false y k e = sym (ap (λ t. cond t (y ∷ filter p k) (filter p k)) e)

kept_by_all : {X : Type 0} (p : X → Bool) (xs : List X) → AllByRecursion (λ x. p x ≡ true) xs → filter p xs ≡ xs
kept_by_all p [] h = refl
kept_by_all p (x ∷ xs) h = ap (λ t. cond t (x ∷ filter p xs) (filter p xs)) h.0 ∙ ap (λ l. x ∷ l) (kept_by_all p xs h.1)

module _ {X : Type 0} (ops : Amounts X) where
  -- one more element
  kept_push : (whole earlier xs : List X) (x : X) → kept_after ops whole earlier (xs ++ x ∷ []) ≡ kept_after ops whole earlier xs ++ cond (stays ops whole (earlier ++ xs) x) (x ∷ []) []
  kept_push whole earlier [] x = ap (λ e. cond (stays ops whole e x) (x ∷ []) []) (sym (append-nil earlier))
  kept_push whole earlier (y ∷ ys) x =
      let b = stays ops whole earlier y in
      let k = kept_after ops whole (earlier ++ y ∷ []) ys in
      let more = kept_push whole (earlier ++ y ∷ []) ys x ∙ ap (λ e. k ++ cond (stays ops whole e x) (x ∷ []) []) (append_assoc earlier (y ∷ []) ys) in
      ap (λ r. cond b (y ∷ r) r) more ∙ cond_append b y k (cond (stays ops whole (earlier ++ (y ∷ ys)) x) (x ∷ []) [])

  kept_fewer : (whole earlier xs : List X) → length (kept_after ops whole earlier xs) ≤ length xs
  kept_fewer whole earlier [] = omega arith
  kept_fewer whole earlier (x ∷ xs) = omega (arith, cond_length (stays ops whole earlier x) x _ _ (kept_fewer whole (earlier ++ x ∷ []) xs))

  -- what is kept was given
  kept_among : (whole earlier xs : List X) (x : X) → Among x (kept_after ops whole earlier xs) → Among x xs
  kept_among whole earlier [] x h = h
  kept_among whole earlier (y ∷ ys) x h =
      let rest : Among x (kept_after ops whole (earlier ++ y ∷ []) ys) → Among x ys = kept_among whole (earlier ++ y ∷ []) ys x in
      cond_both (stays ops whole earlier y) (y ∷ kept_after ops whole (earlier ++ y ∷ []) ys) (kept_after ops whole (earlier ++ y ∷ []) ys) (λ l. Among x l → Among x (y ∷ ys))
      (λ _ m. ⊎_elim inl (λ r. inr (rest r)) m)
      (λ _ m. inr (rest m)) h

  pub keep_selects : Selects (By (kept ops))
  unfolding kept
  keep_selects given result e x h = kept_among given [] given x (subst (Among x) e h)

  beats_not : (x : X) → beats ops x x ≡ false
  beats_not x = ⊎_elim (λ t. and_right _ _ (not_from_true _ t)) (λ f. and_left _ _ f) (cases_Bool (ops.covers x x))

  -- who covers is different or equal
  either : (a b : Bool) → ((a && not b) || (a && b)) ≡ a
  either true true = refl
  either true false = refl
  either false b = refl

  regroup : (b e l : Bool) → (not (b || (false || l)) && not e) ≡ (not (b || e) && not l)
  regroup true e l = refl
  regroup false true true = refl
  regroup false true false = refl
  regroup false false true = refl
  regroup false false false = refl

  -- x stays where no earlier one covers it, and no later one does that is different
  stays_parted : (earlier later : List X) (x : X) → stays ops (earlier ++ x ∷ later) earlier x ≡ (not (any (λ y. ops.covers y x) earlier) && not (any (λ y. beats ops y x) later))
  stays_parted earlier later x =
      let B : X → Bool = λ y. beats ops y x in
      let E : X → Bool = λ y. equal ops y x in
      let whole : any B (earlier ++ x ∷ later) ≡ (any B earlier || (false || any B later)) = list_any-append B earlier (x ∷ later) ∙ ap (λ b. any B earlier || (b || any B later)) (beats_not x) in
      let covered : any (λ y. ops.covers y x) earlier ≡ (any B earlier || any E earlier) = sym (any_same _ _ (λ y. either (ops.covers y x) (ops.covers x y)) earlier) ∙ any_or B E earlier in
      ap (λ b. not b && not (any E earlier)) whole ∙ regroup (any B earlier) (any E earlier) (any B later) ∙ ap (λ b. not b && not (any B later)) (sym covered)

  -- the last one stays where none before covers it
  last_stays : (xs : List X) (x : X) → stays ops (xs ++ x ∷ []) xs x ≡ not (any (λ y. ops.covers y x) xs)
  last_stays xs x = stays_parted xs [] x ∙ and-true (not (any (λ y. ops.covers y x) xs))

  -- with one more in the whole list, those stay that it does not beat
  kept_whole_more : (whole earlier rest : List X) (x : X) → kept_after ops (whole ++ x ∷ []) earlier rest ≡ filter (λ y. not (beats ops x y)) (kept_after ops whole earlier rest)
  kept_whole_more whole earlier [] x = refl
  kept_whole_more whole earlier (y ∷ ys) x =
      let k = kept_after ops whole (earlier ++ y ∷ []) ys in
      ap (λ r. cond (stays ops (whole ++ x ∷ []) earlier y) (y ∷ r) r) (kept_whole_more whole (earlier ++ y ∷ []) ys x)
      ∙ ap (λ b. cond (not b && not (any (λ z. equal ops z y) earlier)) (y ∷ filter (λ z. not (beats ops x z)) k) (filter (λ z. not (beats ops x z)) k)) (list_any-append (λ z. beats ops z y) whole (x ∷ []))
      ∙ pick (λ z. not (beats ops x z)) (any (λ z. beats ops z y) whole) (beats ops x y) (any (λ z. equal ops z y) earlier) y k refl

  -- the last of those that cover what came before: none of the list beats it
  climb : X → List X → X
  climb x [] = x
  climb x (y ∷ ys) = climb (cond (ops.covers y x) y x) ys

module _ {X : Type 0} {ops : Amounts X} (laws : Lawful ops) where
  step_covers : (x y : X) (b : Bool) → ops.covers y x ≡ b → ops.covers (cond b y x) x ≡ true
  step_covers x y true e = e
  step_covers x y false e = laws.reflexive x

  climb_covers : (x : X) (ys : List X) → ops.covers (climb ops x ys) x ≡ true
  unfolding climb
  climb_covers x [] = laws.reflexive x
  climb_covers x (y ∷ ys) = laws.transitive _ (cond (ops.covers y x) y x) x (climb_covers (cond (ops.covers y x) y x) ys) (step_covers x y _ refl)

  climb_among : (x : X) (ys : List X) → (x ≡ climb ops x ys) ⊎ Among (climb ops x ys) ys
  unfolding climb
  climb_among x [] = inl refl
  climb_among x (y ∷ ys) = go (ops.covers y x) (climb_among (cond (ops.covers y x) y x) ys)
    where
      go : (b : Bool) → (cond b y x ≡ climb ops (cond (ops.covers y x) y x) ys) ⊎ Among (climb ops (cond (ops.covers y x) y x) ys) ys
          → (x ≡ climb ops (cond (ops.covers y x) y x) ys) ⊎ ((y ≡ climb ops (cond (ops.covers y x) y x) ys) ⊎ Among (climb ops (cond (ops.covers y x) y x) ys) ys)
      go true (inl e) = inr (inl e)
      go true (inr a) = inr (inr a)
      go false (inl e) = inl e
      go false (inr a) = inr (inr a)

  -- m covers what the step left: y does not beat m
  unbeaten : (x y m : X) (b : Bool) → ops.covers y x ≡ b → ops.covers m (cond b y x) ≡ true → beats ops y m ≡ false
  unbeaten x y m true e h = and_right _ _ (not_from_true _ h)
  unbeaten x y m false e h =
      ⊎_elim (λ t. absurd (both_ways _ e (laws.transitive y m x t h))) (λ f. and_left _ _ f) (cases_Bool (ops.covers y m))

  climb_highest : (x : X) (ys : List X) → AllByRecursion (λ y. beats ops y (climb ops x ys) ≡ false) ys
  unfolding climb
  climb_highest x [] = tt
  climb_highest x (y ∷ ys) = (unbeaten x y _ _ refl (climb_covers (cond (ops.covers y x) y x) ys), climb_highest (cond (ops.covers y x) y x) ys)

  same_here : (x y : X) → equal ops x y ≡ true → x ≡ y
  same_here x y e = laws.antisymmetric x y (and_parts _ _ e).0 (and_parts _ _ e).1

  equal_itself : (x : X) → equal ops x x ≡ true
  equal_itself x = and_from _ _ (laws.reflexive x) (laws.reflexive x)

  -- what none beats is kept, where it comes first
  kept_has : (whole : List X) (m : X) → any (λ y. beats ops y m) whole ≡ false → (earlier rest : List X) → any (λ y. equal ops y m) earlier ≡ false
      → Among m rest → Among m (kept_after ops whole earlier rest)
  kept_has whole m top earlier [] new a = a
  kept_has whole m top earlier (x ∷ xs) new a =
      go (cases_Bool (equal ops x m)) a (λ f b. kept_has whole m top (earlier ++ x ∷ []) xs (any_push (λ y. equal ops y m) earlier x new f) b)
    where
      here : equal ops x m ≡ true → Among m (cond (stays ops whole earlier x) (x ∷ kept_after ops whole (earlier ++ x ∷ []) xs) (kept_after ops whole (earlier ++ x ∷ []) xs))
      here t =
          let e = same_here x m t in
          let stay : stays ops whole earlier x ≡ true = subst (λ z. stays ops whole earlier z ≡ true) (sym e) (and_from _ _ (not_from_false _ top) (not_from_false _ new)) in
          rw stay (inl e)

      go : (equal ops x m ≡ true) ⊎ (equal ops x m ≡ false) → (x ≡ m) ⊎ Among m xs
          → (equal ops x m ≡ false → Among m xs → Among m (kept_after ops whole (earlier ++ x ∷ []) xs))
          → Among m (cond (stays ops whole earlier x) (x ∷ kept_after ops whole (earlier ++ x ∷ []) xs) (kept_after ops whole (earlier ++ x ∷ []) xs))
      go (inl t) a more = here t
      go (inr f) (inl e) more = absurd (both_ways _ f (subst (λ z. equal ops z m ≡ true) (sym e) (equal_itself m)))
      go (inr f) (inr b) more = cond_among m (stays ops whole earlier x) x _ (more f b)

  kept_covers : (xs : List X) (x : X) → Among x xs → CoveredBy ops (kept ops xs) x
  unfolding kept
  kept_covers xs x a =
      let m = climb ops x xs in
      let inside : Among m xs = ⊎_elim (λ e. subst (λ z. Among z xs) e a) (λ b. b) (climb_among x xs) in
      record { one = m; listed = kept_has xs m (any_none (λ y. beats ops y m) xs (climb_highest x xs)) [] xs refl inside; covers = climb_covers x xs }

  pub keep_means : (xs : List X) → 1 ≤ length xs → Meaning ops xs (kept ops xs)
  unfolding kept
  keep_means xs some =
      let first = one_among xs some in
      record {
        some = covered_some laws _ _ (kept_covers xs first.0 first.1);
        fewer = kept_fewer ops xs [] xs;
        covered = kept_covers xs;
        bounded = λ y h. merged_covers laws xs y (kept_among ops xs [] xs y h);
      }

  -- x beats none that stays
  stays_unbeaten : (whole earlier : List X) (x y : X) → Among x whole → stays ops whole earlier y ≡ true → ops.covers x y ≡ true → x ≡ y
  stays_unbeaten whole earlier x y a t h =
      let none = any_not (λ z. beats ops z y) whole x a (not-true _ (and_parts _ _ t).0) in
      ⊎_elim (λ back. laws.antisymmetric x y h back) (λ f. absurd (both_ways _ none (and_from _ _ h (not_from_false _ f)))) (cases_Bool (ops.covers y x))

  kept_unbeaten : (whole earlier rest : List X) (x y : X) → Among x whole → Among y (kept_after ops whole earlier rest) → ops.covers x y ≡ true → x ≡ y
  kept_unbeaten whole earlier [] x y a m h = absurd m
  kept_unbeaten whole earlier (z ∷ zs) x y a m h =
      let rest : Among y (kept_after ops whole (earlier ++ z ∷ []) zs) → x ≡ y = λ n. kept_unbeaten whole (earlier ++ z ∷ []) zs x y a n h in
      cond_both (stays ops whole earlier z) (z ∷ kept_after ops whole (earlier ++ z ∷ []) zs) (kept_after ops whole (earlier ++ z ∷ []) zs) (λ l. Among y l → x ≡ y)
      (λ t n. ⊎_elim (λ e. stays_unbeaten whole earlier x y a (subst (λ w. stays ops whole earlier w ≡ true) e t) h) rest n)
      (λ _ n. rest n) m

  pub keep_unbeaten : (xs : List X) (x y : X) → Among x xs → Among y (kept ops xs) → ops.covers x y ≡ true → x ≡ y
  unfolding kept
  keep_unbeaten xs x y a m h = kept_unbeaten xs [] xs x y a m h

  pub keep_whole : (xs : List X) (x : X) → Among x xs → ((y : X) → Among y xs → ops.covers y x ≡ true → y ≡ x) → Among x (kept ops xs)
  unfolding kept
  keep_whole xs x a top =
      kept_has xs x (any_none (λ y. beats ops y x) xs (all_among (λ y. beats ops y x ≡ false) xs (λ y b.
      ⊎_elim
      (λ h. and_right _ _ (not_from_true _ (subst (λ z. ops.covers x z ≡ true) (sym (top y b h)) (laws.reflexive x))))
      (λ f. and_left _ _ f)
      (cases_Bool (ops.covers y x))))) [] xs refl a

  -- where one that is kept covers x, it is one of the given; where none does, none of the given does
  any_kept : (xs : List X) (x : X) → any (λ y. ops.covers y x) xs ≡ any (λ y. ops.covers y x) (kept ops xs)
  unfolding kept
  any_kept xs x = ⊎_elim
      (λ t. let one = any_has (λ y. ops.covers y x) (kept ops xs) t in any_at (λ y. ops.covers y x) xs one.0 (kept_among ops xs [] xs one.0 one.1.0) one.1.1 ∙ sym t)
      (λ f. any_none (λ y. ops.covers y x) xs (all_among (λ y. ops.covers y x ≡ false) xs (λ y a.
      let top = kept_covers xs y a in
      ⊎_elim (λ h. absurd (both_ways _ (any_not (λ z. ops.covers z x) (kept ops xs) top.one top.listed f) (laws.transitive top.one y x top.covers h))) (λ g. g) (cases_Bool (ops.covers y x)))) ∙ sym f)
      (cases_Bool (any (λ y. ops.covers y x) (kept ops xs)))

  -- keep of one more: those before that it does not beat, and it, where none before covers it
  kept_one_more : (xs : List X) (x : X) → kept ops (xs ++ x ∷ []) ≡ filter (λ y. not (beats ops x y)) (kept ops xs) ++ cond (not (any (λ y. ops.covers y x) (kept ops xs))) (x ∷ []) []
  unfolding kept
  kept_one_more xs x =
      kept_push ops (xs ++ x ∷ []) [] xs x
      ∙ ap (λ l. l ++ cond (stays ops (xs ++ x ∷ []) xs x) (x ∷ []) []) (kept_whole_more ops xs [] xs x)
      ∙ ap (λ b. filter (λ y. not (beats ops x y)) (kept_after ops xs [] xs) ++ cond b (x ∷ []) []) (last_stays ops xs x ∙ ap not (any_kept xs x))

  -- what a kept one covers beats no kept one
  covered_beats_none : (xs : List X) (x : X) → any (λ y. ops.covers y x) (kept ops xs) ≡ true → AllByRecursion (λ y. not (beats ops x y) ≡ true) (kept ops xs)
  unfolding kept
  covered_beats_none xs x t =
      let one = any_has (λ y. ops.covers y x) (kept ops xs) t in
      all_among (λ y. not (beats ops x y) ≡ true) (kept ops xs) (λ y a. ⊎_elim
      (λ h.
      let parts = and_parts _ _ h in
      let same = keep_unbeaten xs one.0 y (kept_among ops xs [] xs one.0 one.1.0) a (laws.transitive one.0 x y one.1.1 parts.0) in
      absurd (both_ways _ (not-true _ parts.1) (subst (λ z. ops.covers z x ≡ true) same one.1.1)))
      (λ f. not_from_false _ f)
      (cases_Bool (beats ops x y)))

  -- a turn of keep: what one of those kept covers is dropped
  keep_drops : (xs : List X) (x : X) → any (λ y. ops.covers y x) (kept ops xs) ≡ true → kept ops (xs ++ x ∷ []) ≡ kept ops xs
  keep_drops xs x t =
      kept_one_more xs x ∙ ap (λ b. filter (λ y. not (beats ops x y)) (kept ops xs) ++ cond (not b) (x ∷ []) []) t ∙ append-nil _ ∙ kept_by_all (λ y. not (beats ops x y)) (kept ops xs) (covered_beats_none xs x t)

  -- and else it is kept, without those that it beats
  keep_takes : (xs : List X) (x : X) → any (λ y. ops.covers y x) (kept ops xs) ≡ false → kept ops (xs ++ x ∷ []) ≡ filter (λ y. not (beats ops x y)) (kept ops xs) ++ x ∷ []
  keep_takes xs x f = kept_one_more xs x ∙ ap (λ b. filter (λ y. not (beats ops x y)) (kept ops xs) ++ cond (not b) (x ∷ []) []) f

  module _ (from into : List X) (k i : ℕ) (x : X) (inside : i < length from) (read : x ≡ slice_index_or from i x) (so_far : take k into ≡ kept ops (take i from)) where
    next : take (i + 1) from ≡ take i from ++ x ∷ []
    next = take_more from i x inside ∙ ap (λ y. take i from ++ y ∷ []) (sym read)

    -- a turn that drops x
    pub turn_drops : any (λ y. ops.covers y x) (take k into) ≡ true → take k into ≡ kept ops (take (i + 1) from)
    turn_drops t = so_far ∙ sym (ap (kept ops) next ∙ keep_drops (take i from) x (ap (any (λ y. ops.covers y x)) (sym so_far) ∙ t))

    -- a turn that keeps it: those before that it does not beat stand in the first m of these rows, and it is written behind them
    pub turn_takes : (rows : List X) (m : ℕ) → k ≤ i → length from ≤ length into → any (λ y. ops.covers y x) (take k into) ≡ false → length rows ≡ length (take k into) → m ≤ length (take k into)
        → take m rows ≡ filter (λ y. not (beats ops x y)) (take k into)
        → (take (m + 1) (slice_set (rows ++ drop k into) m x) ≡ kept ops (take (i + 1) from)) × (drop (length from) (slice_set (rows ++ drop k into) m x) ≡ drop (length from) into)
    turn_takes rows m low room none same few left =
        let long : length (take k into) ≡ k = omega (arith, length-take k into) in
        let whole : m < length (rows ++ drop k into) = omega (arith, length-append rows (drop k into), length-drop k into) in (
          take_more_set (rows ++ drop k into) m x whole ∙ ap (λ l. l ++ x ∷ []) (take-append-le m rows (drop k into) (omega arith) ∙ left ∙ ap (filter (λ y. not (beats ops x y))) so_far)
              ∙ sym (ap (kept ops) next ∙ keep_takes (take i from) x (ap (any (λ y. ops.covers y x)) (sym so_far) ∙ none)),
          drop-set-lt (length from) (rows ++ drop k into) m x (omega arith) ∙ drop-append-drop k into rows (length from) (omega arith) (same ∙ long),
        )

pub keep_sound : {M : Type 0} {ops : Amounts M} → Lawful ops → Sound ops (By (kept (entry_ops ops)))
keep_sound {ops = ops} laws xs ys some few e = subst (Meaning (entry_ops ops) xs) (sym e) (keep_means (entry_lawful laws) xs some)

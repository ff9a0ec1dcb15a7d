-- The grammar's tests decide its relation. Assumes nothing.
use Rattle.std.proofs.Common.{◌≡◌, ℕ, zero, suc, ◌<◌, ◌≤◌, true, cond, ◌&&◌, ltb, leb, List, [], ◌∷◌, length, get_or, Decides, sym, refl, ◌∙◌, subst, ⊎_elim, arith}
use Rattle.std.proofs.lemmas.Bool.{cases_eq, cases_lt, cond-true, cond-false, and_parts, and_from, eq-eqb, ne_eqb, ltb-true, lt-ltb, le-ltb, leb-true, le-leb, false≢true}
use Rattle.sheets.specs.Frames.{Raw}
use Rattle.sheets.specs.Grammar.{byte, count, entries, highest, some, lower, first_is, room, follows, each_event, complete, most_of, belongs_to, fits_of}
use Rattle.sheets.specs.Lawful.{Heads, Belongs, Fits, Needed, Most, Follows, Whole}
use Rattle.sheets.specs.Lawful as L
use Rattle.sheets.proofs.Tables.{Kinds, kinds, belongs_out, belongs_as, belongs_in, tags, fits_in, fits_out, ascending_in, ascending_out, needed_is}

-- the needed lower tags have come
abbrev Lower : ℕ → ℕ → List Raw → Type 0
Lower k t fs = (u : ℕ) → Needed u → Belongs k u → u < t → 1 ≤ count u fs

same_count : (u v : ℕ) (fs : List Raw) → u ≡ v → 1 ≤ count v fs → 1 ≤ count u fs
same_count u v fs e h = subst (λ x. 1 ≤ count x fs) (sym e) h

lower_at : (t t' : ℕ) (fs : List Raw) → t ≡ t' → lower t fs ≡ true → lower t' fs ≡ true
lower_at t t' fs e h = subst (λ x. lower x fs ≡ true) e h

lower_in : (k t : ℕ) (fs : List Raw) → Kinds k t → lower t fs ≡ true → Lower k t fs
lower_in k t fs kt h u need belongs lt =
    let ku = kinds k u (belongs_out belongs) in
    ⊎_elim
    (λ two. same_count u 2 fs two
    (⊎_elim
    (λ three. leb-true 1 (count 2 fs) (lower_at t 3 fs three h))
    (λ not3. let four : t ≡ 4 = of_basic kt ku two not3 in leb-true 1 (count 2 fs) (and_parts (some 2 fs) (some 3 fs) (lower_at t 4 fs four h)).0)
    (cases_eq t 3)))
    (⊎_elim
    (λ three. let four : t ≡ 4 = of_state kt ku three in same_count u 3 fs three (leb-true 1 (count 3 fs) (and_parts (some 2 fs) (some 3 fs) (lower_at t 4 fs four h)).1))
    (λ six. let seven : t ≡ 7 = of_instance kt ku six in same_count u 6 fs six (leb-true 1 (count 6 fs) (lower_at t 7 fs seven h))))
    (needed_is need)
  where
    of_basic : Kinds k t → Kinds k u → u ≡ 2 → (t ≡ 3 → ⊥) → t ≡ 4
    of_basic a b e not3 = omega arith

    of_state : Kinds k t → Kinds k u → u ≡ 3 → t ≡ 4
    of_state a b e = omega arith

    of_instance : Kinds k t → Kinds k u → u ≡ 6 → t ≡ 7
    of_instance a b e = omega arith

lower_out : (k t : ℕ) (fs : List Raw) → Kinds k t → Lower k t fs → lower t fs ≡ true
lower_out k t fs kt h =
    ⊎_elim
    (λ e. subst (λ x. lower x fs ≡ true) (sym e) (le-leb 1 (count 2 fs) (h 2 L.Needed.amounts (belongs_as 1 2 k 2 L.Belongs.amounts (basic (omega arith)) refl) (omega arith))))
    (λ not3. ⊎_elim
    (λ e.
    let one = basic (omega arith) in
    subst (λ x. lower x fs ≡ true) (sym e)
    (and_from _ _ (le-leb 1 (count 2 fs) (h 2 L.Needed.amounts (belongs_as 1 2 k 2 L.Belongs.amounts one refl) (omega arith))) (le-leb 1 (count 3 fs) (h 3 L.Needed.state (belongs_as 1 3 k 3 L.Belongs.state one refl) (omega arith)))))
    (λ not4. ⊎_elim
    (λ e. subst (λ x. lower x fs ≡ true) (sym e) (le-leb 1 (count 6 fs) (h 6 L.Needed.instance (belongs_as 3 6 k 6 L.Belongs.instance (composite (omega arith)) refl) (omega arith))))
    (λ not7. rw (ne_eqb t 3 not3, ne_eqb t 4 not4, ne_eqb t 7 not7) refl)
    (cases_eq t 7)) (cases_eq t 4)) (cases_eq t 3)
  where
    basic : t ≤ 4 → k ≡ 1
    basic le = omega (arith, kt)

    composite : 6 ≤ t → k ≡ 3
    composite le = omega (arith, kt)

most_is : {t n : ℕ} → Most t n → most_of t ≡ n
most_is L.Most.amounts = refl
most_is L.Most.states = refl
most_is L.Most.transitions = refl
most_is L.Most.instances = refl
most_is L.Most.connections = refl

most_not5 : {t n : ℕ} → Most t n → t ≡ 5 → ⊥
most_not5 L.Most.amounts e = omega arith
most_not5 L.Most.states e = omega arith
most_not5 L.Most.transitions e = omega arith
most_not5 L.Most.instances e = omega arith
most_not5 L.Most.connections e = omega arith

most_as : (t t' : ℕ) → Most t' (most_of t') → t ≡ t' → Most t (most_of t)
most_as t t' m e = subst (λ x. Most x (most_of x)) (sym e) m

most_at : (t : ℕ) → 2 ≤ t → t ≤ 7 → (t ≡ 5 → ⊥) → Most t (most_of t)
most_at t low high not5 =
    ⊎_elim (λ e. most_as t 2 L.Most.amounts e) (λ not2.
    ⊎_elim (λ e. most_as t 3 L.Most.states e) (λ not3.
    ⊎_elim (λ e. most_as t 4 L.Most.transitions e) (λ not4.
    ⊎_elim (λ e. most_as t 6 L.Most.instances e) (λ not6. most_as t 7 L.Most.connections (omega arith))
    (cases_eq t 6)) (cases_eq t 4)) (cases_eq t 3)) (cases_eq t 2)

-- an entry's event, by the first byte
event_in : (i : ℕ) (fs : List Raw) (c : List ℕ) → first_is c (λ e. cond (ltb e i) (ltb (entries e fs) 16) true) ≡ true → get_or c 0 0 < i → entries (get_or c 0 0) fs < 16
event_in i fs [] h lt = absurd (false≢true h)
event_in i fs (b ∷ c) h lt = ltb-true _ _ (sym (cond-true (ltb b i) (ltb (entries b fs) 16) true (lt-ltb b i lt)) ∙ h)

event_out : (i : ℕ) (fs : List Raw) (c : List ℕ) → 1 ≤ length c → (get_or c 0 0 < i → entries (get_or c 0 0) fs < 16) → first_is c (λ e. cond (ltb e i) (ltb (entries e fs) 16) true) ≡ true
event_out i fs [] one h = absurd (omega arith)
event_out i fs (b ∷ c) one h =
    ⊎_elim
    (λ lt. cond-true (ltb b i) (ltb (entries b fs) 16) true (lt-ltb b i lt) ∙ lt-ltb (entries b fs) 16 (h lt))
    (λ ge. cond-false (ltb b i) (ltb (entries b fs) 16) true (le-ltb b i ge))
    (cases_lt b i)

-- an entry has its event's byte
entry_some : {w o t n : ℕ} → Fits w o t n → t ≡ 5 → 1 ≤ n
entry_some (L.Fits.amounts n le) e = absurd (omega arith)
entry_some (L.Fits.state n le) e = absurd (omega arith)
entry_some L.Fits.transition e = absurd (omega arith)
entry_some {w} {o} L.Fits.entry e = omega arith
entry_some L.Fits.instance e = omega arith
entry_some L.Fits.connection e = omega arith

module _ (w : ℕ) (head : Raw) (fs : List Raw) (f : Raw) where
  follows_in : follows w head fs f ≡ true → Follows w head fs f
  follows_in h =
      let p1 = and_parts (belongs_to (byte head 0) f.tag && fits_of w (byte head 2) f.tag (length f.content) && leb (highest fs) f.tag && lower f.tag fs) (room (byte head 1) fs f) h in
      let p2 = and_parts (belongs_to (byte head 0) f.tag && fits_of w (byte head 2) f.tag (length f.content) && leb (highest fs) f.tag) (lower f.tag fs) p1.0 in
      let p3 = and_parts (belongs_to (byte head 0) f.tag && fits_of w (byte head 2) f.tag (length f.content)) (leb (highest fs) f.tag) p2.0 in
      let p4 = and_parts (belongs_to (byte head 0) f.tag) (fits_of w (byte head 2) f.tag (length f.content)) p3.0 in
      let range = tags (byte head 0) f.tag p4.0 in
      record {
        kind = belongs_in (byte head 0) f.tag p4.0;
        size = fits_in w (byte head 2) f.tag (length f.content) range.0 range.1 p4.1;
        ascending = ascending_in f.tag fs (leb-true _ _ p3.1);
        lower = lower_in (byte head 0) f.tag fs (kinds (byte head 0) f.tag p4.0) p2.1;
        room = λ n m.
            let below : count f.tag fs < most_of f.tag = ltb-true _ _ (sym (cond-false _ _ _ (ne_eqb f.tag 5 (most_not5 m))) ∙ p1.1) in
            omega (arith, below, most_is m);
        event_room = λ five lt. event_in (byte head 1) fs f.content (sym (cond-true _ _ _ (eq-eqb f.tag 5 five)) ∙ p1.1) lt;
      }

  follows_out : Follows w head fs f → follows w head fs f ≡ true
  follows_out h =
      let kind = belongs_out h.kind in
      let range = tags (byte head 0) f.tag kind in
      and_from _ _
      (and_from _ _
      (and_from _ _
      (and_from _ _ kind (fits_out h.size))
      (le-leb _ _ (ascending_out f.tag fs (omega (arith, range.0)) h.ascending)))
      (lower_out (byte head 0) f.tag fs (kinds (byte head 0) f.tag kind) h.lower))
      (⊎_elim
      (λ five. cond-true _ _ _ (eq-eqb f.tag 5 five) ∙ event_out (byte head 1) fs f.content (entry_some h.size five) (h.event_room five))
      (λ not5. cond-false _ _ _ (ne_eqb f.tag 5 not5) ∙ lt-ltb _ _ (h.room (most_of f.tag) (most_at f.tag range.0 range.1 not5)))
      (cases_eq f.tag 5))

  pub follows_decides : Decides (follows w head fs f) (Follows w head fs f)
  follows_decides = (follows_in, follows_out)

each_in : (n : ℕ) (fs : List Raw) → each_event n fs ≡ true → (e : ℕ) → e < n → 1 ≤ entries e fs
each_in zero fs h e lt = absurd (omega arith)
each_in (suc n) fs h e lt =
    let p = and_parts (leb 1 (entries n fs)) (each_event n fs) h in
    ⊎_elim (λ same. subst (λ i. 1 ≤ entries i fs) (sym same) (leb-true 1 (entries n fs) p.0)) (λ other. each_in n fs p.1 e (omega arith)) (cases_eq e n)

each_out : (n : ℕ) (fs : List Raw) → ((e : ℕ) → e < n → 1 ≤ entries e fs) → each_event n fs ≡ true
each_out zero fs h = refl
each_out (suc n) fs h = and_from _ _ (le-leb 1 (entries n fs) (h n (omega arith))) (each_out n fs (λ e lt. h e (omega arith)))

module _ (head : Raw) (fs : List Raw) (h : Heads head) where
  -- the three kinds' needs
  whole_basic : byte head 0 ≡ 1 → complete head fs ≡ (some 2 fs && some 3 fs)
  whole_basic e = cond-true _ _ _ (eq-eqb (byte head 0) 1 e)

  whole_service : byte head 0 ≡ 2 → complete head fs ≡ each_event (byte head 1) fs
  whole_service e = cond-false _ _ _ (ne_eqb (byte head 0) 1 (λ i. omega arith)) ∙ cond-true _ _ _ (eq-eqb (byte head 0) 2 e)

  whole_composite : byte head 0 ≡ 3 → complete head fs ≡ some 6 fs
  whole_composite e = cond-false _ _ _ (ne_eqb (byte head 0) 1 (λ i. omega arith)) ∙ cond-false _ _ _ (ne_eqb (byte head 0) 2 (λ i. omega arith))

  needed_in : complete head fs ≡ true → (t : ℕ) → Needed t → Belongs (byte head 0) t → 1 ≤ count t fs
  needed_in ok t need b =
      let k = kinds (byte head 0) t (belongs_out b) in
      ⊎_elim
      (λ two. let one : byte head 0 ≡ 1 = omega (arith, k) in same_count t 2 fs two (leb-true 1 (count 2 fs) (and_parts (some 2 fs) (some 3 fs) (sym (whole_basic one) ∙ ok)).0))
      (⊎_elim
      (λ three. let one : byte head 0 ≡ 1 = omega (arith, k) in same_count t 3 fs three (leb-true 1 (count 3 fs) (and_parts (some 2 fs) (some 3 fs) (sym (whole_basic one) ∙ ok)).1))
      (λ six. let last : byte head 0 ≡ 3 = omega (arith, k) in same_count t 6 fs six (leb-true 1 (count 6 fs) (sym (whole_composite last) ∙ ok))))
      (needed_is need)

  complete_out : Whole head fs → complete head fs ≡ true
  complete_out w =
      ⊎_elim
      (λ one. whole_basic one ∙ and_from _ _ (le-leb 1 (count 2 fs) (w.needed 2 L.Needed.amounts (belongs_as 1 2 _ 2 L.Belongs.amounts one refl))) (le-leb 1 (count 3 fs) (w.needed 3 L.Needed.state (belongs_as 1 3 _ 3 L.Belongs.state one refl))))
      (λ not1. ⊎_elim
      (λ two. whole_service two ∙ each_out (byte head 1) fs (w.each two))
      (λ not2. let three : byte head 0 ≡ 3 = omega (arith, h.some_kind, h.few_kinds) in whole_composite three ∙ le-leb 1 (count 6 fs) (w.needed 6 L.Needed.instance (belongs_as 3 6 _ 6 L.Belongs.instance three refl)))
      (cases_eq (byte head 0) 2))
      (cases_eq (byte head 0) 1)

  pub complete_decides : Decides (complete head fs) (Whole head fs)
  complete_decides = ((λ ok. record { needed = needed_in ok; each = λ two. each_in (byte head 1) fs (sym (whole_service two) ∙ ok) }), complete_out)

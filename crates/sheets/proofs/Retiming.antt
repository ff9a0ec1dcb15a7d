-- Other bytes for one amount keep a sheet checked and change that amount alone. Assumes nothing.
use Rattle.std.proofs.Common.{◌≡◌, ℕ, zero, suc, ◌+◌, ◌*◌, ◌/◌, ◌<◌, ◌≤◌, true, false, cond, ◌&&◌, eqb, leb, List, [], ◌∷◌, ◌++◌, length, take, drop, set, is_ok, Some, None, sym, refl, ap, ◌∙◌, subst, ⊎_elim, append_assoc, suc-mul, zero-add, zero-mul, div-mul-le_self, arith}
use native.Mathlib.Nat.{zero-div}
use Rattle.std.specs.List.{slice_get}
use Rattle.std.proofs.lemmas.List.{take-append-drop, take_at, drop_at, length-take-le, length-drop, length-append, take-append-le, drop-append-le}
use Rattle.std.proofs.lemmas.Bool.{cases_Bool, cases_eq, cond-true, cond-false, and_parts, eqb-true, leb-true, false≢true}
use Rattle.sheets.specs.Frames.{Raw, size, fields}
use Rattle.sheets.specs.Form.{AmountAt, with_amount}
use Rattle.sheets.specs.Grammar.{byte, entries, some, each_event, belongs_to, fits_of, highest, lower, room, follows, complete, walk, fault, heads_of, interface_ok}
use Rattle.sheets.specs.Refusals.{refused_at, framing_of, check_of}
use Rattle.sheets.specs.Sheets.{Sheet, tagged, first_of, cut, amounts_at, interface_at, sheet_from, sheet_of, replaced}
use Rattle.sheets.specs.Split.{Splits, none, more}
use Rattle.sheets.proofs.Pieces.{length_cut, piece_within}
use Rattle.sheets.proofs.Reading.{headed, no_fault, belonging, some_not_none}
use Rattle.sheets.proofs.Splitting.{take_past, drop_past, unique, framing_splits, splits_framed}

-- the bytes after a part that stays
replaced_past : (a b : List ℕ) (n q : ℕ) (new : List ℕ) → n ≡ length a + q → replaced (a ++ b) n new ≡ a ++ replaced b q new
replaced_past a b n q new e =
    rw (take_past a b n q e, drop_past a b (n + length new) (q + length new) (omega arith)) (append_assoc a (take q b) (new ++ drop (q + length new) b))

-- and before a part that stays
replaced_before : (c t : List ℕ) (q : ℕ) (new : List ℕ) → q + length new ≤ length c → replaced (c ++ t) q new ≡ replaced c q new ++ t
replaced_before c t q new le =
    let front : take q (c ++ t) ≡ take q c = take-append-le q c t (omega arith) in
    let back : drop (q + length new) (c ++ t) ≡ drop (q + length new) c ++ t = drop-append-le (q + length new) c t le in
    rw (front, back) (sym (append_assoc (take q c) (new ++ drop (q + length new) c) t ∙ ap (λ l. take q c ++ l) (append_assoc new (drop (q + length new) c) t)))

length_replaced : (c : List ℕ) (q : ℕ) (new : List ℕ) → q + length new ≤ length c → length (replaced c q new) ≡ length c
length_replaced c q new le =
    let low : q ≤ length c = omega arith in
    omega (arith, length-append (take q c) (new ++ drop (q + length new) c), length-append new (drop (q + length new) c), length-take-le q c low, length-drop (q + length new) c)

-- one of the parts is replaced
set_cut : (w n : ℕ) (c : List ℕ) (k : ℕ) (new : List ℕ) → length new ≡ w → k < n → n * w ≤ length c → cut w n (replaced c (k * w) new) ≡ set (cut w n c) k new
set_cut w zero c k new e lt le = absurd (omega arith)
set_cut w (suc n) c zero new e lt le =
    let here : replaced c (0 * w) new ≡ new ++ drop w c = rw (zero-mul, zero-add, e) refl in
    rw (here, take_at new (drop w c) w e, drop_at new (drop w c) w e) refl
set_cut w (suc n) c (suc k) new e lt le =
    let room : w ≤ length c = omega (arith, suc-mul n w) in
    let there : replaced c (suc k * w) new ≡ take w c ++ replaced (drop w c) (k * w) new =
    ap (λ l. replaced l (suc k * w) new) (sym (take-append-drop w c)) ∙ replaced_past (take w c) (drop w c) (suc k * w) (k * w) new (omega (arith, suc-mul k w, length-take-le w c room)) in
    rw (there, take_at (take w c) (replaced (drop w c) (k * w) new) w (length-take-le w c room), drop_at (take w c) (replaced (drop w c) (k * w) new) w (length-take-le w c room))
    (ap (λ l. take w c ∷ l) (set_cut w n (drop w c) k new e (omega arith) (omega (arith, suc-mul n w, length-drop w c))))

-- the first of some fields end to end
record First (bs : List ℕ) (f : Raw) (gs : List Raw) : Type 0 where
  pub high : ℕ
  pub low : ℕ
  pub rest : List ℕ
  pub long : length f.content ≡ high * 256 + low
  pub is : bs ≡ f.tag ∷ high ∷ low ∷ f.content ++ rest
  pub splits : Splits rest gs

abbrev rest_of : List Raw → List Raw
rest_of [] = []
rest_of (f ∷ fs) = fs

first_split : {bs : List ℕ} {fs : List Raw} → Splits bs fs → (f : Raw) (gs : List Raw) → fs ≡ f ∷ gs → First bs f gs
first_split none f gs e = absurd cc
first_split (more t h l content rest fs n s) f gs e =
    let here : record { tag = t; content = content } ≡ f = ap (λ l. first_of l) e in
    let later : fs ≡ gs = ap rest_of e in
    subst (λ f. First (t ∷ h ∷ l ∷ content ++ rest) f gs) here
    (record { high = h; low = l; rest = rest; long = n; is = refl; splits = subst (Splits rest) later s })

-- the amounts' field with its content
abbrev am : List ℕ → Raw
am c = record { tag = 2; content = c }

each_same : (c d : List ℕ) (before : List Raw) (n : ℕ) → each_event n (am c ∷ before) ≡ each_event n (am d ∷ before)
each_same c d before zero = refl
each_same c d before (suc n) = ap (λ b. leb 1 (entries n (am d ∷ before)) && b) (each_same c d before n)

complete_same : (head : Raw) (c d : List ℕ) (before : List Raw) → complete head (am c ∷ before) ≡ complete head (am d ∷ before)
complete_same head c d before =
    ap (λ b. cond (eqb (byte head 0) 1) (some 2 (am d ∷ before) && some 3 (am d ∷ before)) (cond (eqb (byte head 0) 2) b (some 6 (am d ∷ before)))) (each_same c d before (byte head 1))

-- what follows the amounts' field goes by their length alone
walk_same : (w : ℕ) (head : Raw) (c d : List ℕ) (before : List Raw) (at : ℕ) (fs : List Raw) → walk w head (am c ∷ before) at fs ≡ walk w head (am d ∷ before) at fs
walk_same w head c d before at [] = ap (λ b. cond b None (Some at)) (complete_same head c d before)
walk_same w head c d before at (f ∷ fs) = ap (λ x. cond (follows w head (am d ∷ before) f) x (Some at)) (walk_same w head c d (before ++ f ∷ []) (at + size f) fs)

fault_same : (w : ℕ) (head : Raw) (c d : List ℕ) (fs : List Raw) → length c ≡ length d → fault w (head ∷ am c ∷ fs) ≡ fault w (head ∷ am d ∷ fs)
fault_same w head c d fs e =
    ap (λ x. cond (heads_of head) x (Some 0))
    (rw e (ap (λ x. cond (follows w head [] (am d)) x (Some (size head))) (walk_same w head c d [] (size head + (3 + length d)) fs)))

-- a sheet with an amount has its amounts' field right behind the interface
record Amounted (fs : List Raw) : Type 0 where
  pub content : List ℕ
  pub rest : List Raw
  pub is : fs ≡ am content ∷ rest

kind_one : (k : ℕ) → belongs_to k 2 ≡ true → k ≡ 1
kind_one k h =
    ⊎_elim
    (λ one. eqb-true k 1 one)
    (λ not1.
    ⊎_elim
    (λ two. absurd (false≢true (sym (cond-true _ _ _ two) ∙ sym (cond-false (eqb k 1) true _ not1) ∙ h)))
    (λ not2.
    ⊎_elim
    (λ three. absurd (false≢true (sym (cond-true _ _ _ three) ∙ sym (cond-false (eqb k 2) false _ not2) ∙ sym (cond-false (eqb k 1) true _ not1) ∙ h)))
    (λ not3. absurd (false≢true (sym (cond-false (eqb k 3) false false not3) ∙ sym (cond-false (eqb k 2) false _ not2) ∙ sym (cond-false (eqb k 1) true _ not1) ∙ h)))
    (cases_Bool (eqb k 3)))
    (cases_Bool (eqb k 2)))
    (cases_Bool (eqb k 1))

amounted : (w : ℕ) (head : Raw) (fs : List Raw) → byte head 0 ≡ 1 → walk w head [] (size head) fs ≡ None → (f : Raw) → slice_get (tagged 2 fs) 0 ≡ Some f → Amounted fs
amounted w head [] one e f is = absurd (some_not_none f (sym is))
amounted w head (g ∷ gs) one e f is =
    ⊎_elim
    (λ ok.
    let a = (and_parts (belongs_to (byte head 0) g.tag && fits_of w (byte head 2) g.tag (length g.content) && leb (highest []) g.tag && lower g.tag []) (room (byte head 1) [] g) ok).0 in
    let low = and_parts (belongs_to (byte head 0) g.tag && fits_of w (byte head 2) g.tag (length g.content) && leb (highest []) g.tag) (lower g.tag []) a in
    let kind = (and_parts (belongs_to (byte head 0) g.tag) (fits_of w (byte head 2) g.tag (length g.content)) (and_parts _ _ low.0).0).0 in
    let two : g.tag ≡ 2 = first_tag g.tag (subst (λ k. belongs_to k g.tag ≡ true) one kind) low.1 in
    record { content = g.content; rest = gs; is = ap (λ t. record { tag = t; content = g.content } ∷ gs) two })
    (λ bad. absurd (some_not_none (size head) (sym (cond-false _ _ _ bad) ∙ e)))
    (cases_Bool (follows w head [] g))
  where
    first_tag : (t : ℕ) → (leb 2 t && leb t 4) ≡ true → lower t [] ≡ true → t ≡ 2
    first_tag t k l =
        let p = and_parts (leb 2 t) (leb t 4) k in
        let at_least_lem = leb-true 2 t p.0 in
        let at_most = leb-true t 4 p.1 in
        ⊎_elim
        (λ three. absurd (false≢true (sym (ap (λ n. lower n []) three) ∙ l)))
        (λ not3. ⊎_elim (λ four. absurd (false≢true (sym (ap (λ n. lower n []) four) ∙ l))) (λ not4. omega arith) (cases_eq t 4))
        (cases_eq t 3)

abbrev hd : List ℕ → Raw
hd c = record { tag = 1; content = c }

some_content : (l : List Raw) (k w : ℕ) → k < length (amounts_at w (first_of l).content) → (f : Raw) × (slice_get l 0 ≡ Some f)
some_content [] k w lt = absurd (omega (arith, length_cut w (0 / w) [], zero-div w))
some_content (f ∷ l) k w lt = (f, refl)

-- the bytes of a sheet with amounts: interface, amounts, and what follows
record Shape (w : ℕ) (bs : List ℕ) : Type 0 where
  pub hc : List ℕ
  pub c : List ℕ
  pub tail : List ℕ
  pub rest : List Raw
  pub h0 : ℕ
  pub l0 : ℕ
  pub h : ℕ
  pub l : ℕ
  pub three : length hc ≡ 3
  pub long0 : length hc ≡ h0 * 256 + l0
  pub long : length c ≡ h * 256 + l
  pub is : bs ≡ 1 ∷ h0 ∷ l0 ∷ hc ++ (2 ∷ h ∷ l ∷ c ++ tail)
  pub follows : Splits tail rest
  pub fields : fields bs ≡ hd hc ∷ am c ∷ rest

three_of : (c : List ℕ) → interface_ok c ≡ true → length c ≡ 3
three_of [] ok = absurd (false≢true ok)
three_of (x ∷ []) ok = absurd (false≢true ok)
three_of (x ∷ y ∷ []) ok = absurd (false≢true ok)
three_of (x ∷ y ∷ z ∷ []) ok = refl
three_of (x ∷ y ∷ z ∷ a ∷ c) ok = absurd (false≢true ok)

shape : (w : ℕ) (bs : List ℕ) → is_ok (framing_of bs) ≡ true → is_ok (check_of w bs) ≡ true → (k : ℕ) → k < length (sheet_of w bs).amounts → Shape w bs
unfolding sheet_of
shape w bs framed right k lt =
    let hh = headed w (fields bs) (no_fault w bs right) in
    let parts = and_parts (eqb hh.head.tag 1) (interface_ok hh.head.content) hh.heads in
    let one : hh.head.tag ≡ 1 = eqb-true _ 1 parts.0 in
    let is1 : fields bs ≡ hd hh.head.content ∷ hh.fs = hh.is ∙ ap (λ t. record { tag = t; content = hh.head.content } ∷ hh.fs) one in
    let two = some_content (tagged 2 (fields bs)) k w lt in
    let kind = kind_one (byte hh.head 0) (belonging w (fields bs) hh 2 (λ e. omega arith) 0 two.0 two.1).0 in
    let a = amounted w hh.head hh.fs kind hh.goes two.0 (ap (λ l. slice_get (tagged 2 l) 0) (sym is1) ∙ two.1) in
    let is2 : fields bs ≡ hd hh.head.content ∷ am a.content ∷ a.rest = is1 ∙ ap (λ l. hd hh.head.content ∷ l) a.is in
    let f1 = first_split (splits_framed bs framed) (hd hh.head.content) (am a.content ∷ a.rest) is2 in
    let f2 = first_split f1.splits (am a.content) a.rest refl in
    record {
      hc = hh.head.content;
      c = a.content;
      tail = f2.rest;
      rest = a.rest;
      h0 = f1.high;
      l0 = f1.low;
      h = f2.high;
      l = f2.low;
      three = three_of hh.head.content parts.1;
      long0 = f1.long;
      long = f2.long;
      is = f1.is ∙ ap (λ r. 1 ∷ f1.high ∷ f1.low ∷ hh.head.content ++ r) f2.is;
      follows = f2.splits;
      fields = is2;
    }

module _ (w : ℕ) (bs : List ℕ) (k : ℕ) (s : Shape w bs) (lt : k < length s.c / w) (right : is_ok (check_of w bs) ≡ true) where
  before : List ℕ
  before = 1 ∷ s.h0 ∷ s.l0 ∷ s.hc ++ (2 ∷ s.h ∷ s.l ∷ [])

  nine : length before ≡ 9
  unfolding before
  nine = omega (arith, length-append s.hc (2 ∷ s.h ∷ s.l ∷ []), s.three)

  joined : (x : List ℕ) → before ++ x ≡ 1 ∷ s.h0 ∷ s.l0 ∷ s.hc ++ (2 ∷ s.h ∷ s.l ∷ x)
  unfolding before
  joined x = ap (λ y. 1 ∷ s.h0 ∷ s.l0 ∷ y) (append_assoc s.hc (2 ∷ s.h ∷ s.l ∷ []) x)

  module _ (new : List ℕ) (e : length new ≡ w) where
    fits : k * w + length new ≤ length s.c
    fits = omega (arith, piece_within (length s.c) w k lt)

    now_is : replaced bs (9 + k * w) new ≡ 1 ∷ s.h0 ∷ s.l0 ∷ s.hc ++ (2 ∷ s.h ∷ s.l ∷ replaced s.c (k * w) new ++ s.tail)
    now_is =
        ap (λ b. replaced b (9 + k * w) new) (s.is ∙ sym (joined (s.c ++ s.tail)))
        ∙ replaced_past before (s.c ++ s.tail) (9 + k * w) (k * w) new (omega (arith, nine))
        ∙ ap (λ x. before ++ x) (replaced_before s.c s.tail (k * w) new fits)
        ∙ joined (replaced s.c (k * w) new ++ s.tail)

    now_splits : Splits (replaced bs (9 + k * w) new) (hd s.hc ∷ am (replaced s.c (k * w) new) ∷ s.rest)
    now_splits =
        subst (λ b. Splits b (hd s.hc ∷ am (replaced s.c (k * w) new) ∷ s.rest)) (sym now_is)
        (more 1 s.h0 s.l0 s.hc _ _ s.long0 (more 2 s.h s.l (replaced s.c (k * w) new) s.tail s.rest (length_replaced s.c (k * w) new fits ∙ s.long) s.follows))

    now_framed : is_ok (framing_of (replaced bs (9 + k * w) new)) ≡ true
    now_framed = ap is_ok (framing_splits now_splits)

    now_right : is_ok (check_of w (replaced bs (9 + k * w) new)) ≡ true
    unfolding check_of
    now_right =
        ap (λ o. is_ok (refused_at o))
        (ap (fault w) (unique now_splits) ∙ fault_same w (hd s.hc) (replaced s.c (k * w) new) s.c s.rest (length_replaced s.c (k * w) new fits) ∙ ap (fault w) (sym s.fields))
        ∙ right

    now_says : sheet_of w (replaced bs (9 + k * w) new) ≡ with_amount (sheet_of w bs) k new
    unfolding sheet_of
    now_says =
        ap (sheet_from w) (unique now_splits)
        ∙ ap (λ a. record { face = interface_at (hd s.hc); amounts = a; states = old.states; transitions = old.transitions; entries = old.entries; instances = old.instances; connections = old.connections })
        (ap (λ n. cut w (n / w) (replaced s.c (k * w) new)) (length_replaced s.c (k * w) new fits)
        ∙ set_cut w (length s.c / w) s.c k new e lt (div-mul-le_self (length s.c) w))
        ∙ ap (λ fs. with_amount (sheet_from w fs) k new) (sym s.fields)
      where
        old : Sheet
        old = sheet_from w (hd s.hc ∷ am s.c ∷ s.rest)

  found_at : AmountAt w bs k (9 + k * w)
  found_at = record {
    within = omega (arith, ap length (s.is ∙ sym (joined (s.c ++ s.tail))), length-append before (s.c ++ s.tail), length-append s.c s.tail, nine, piece_within (length s.c) w k lt);
    framed = now_framed;
    right = now_right;
    says = now_says;
  }

pub amount_at : (w : ℕ) (bs : List ℕ) → is_ok (framing_of bs) ≡ true → is_ok (check_of w bs) ≡ true → (k : ℕ) → k < length (sheet_of w bs).amounts → AmountAt w bs k (9 + k * w)
unfolding sheet_of
amount_at w bs framed right k lt =
    let s = shape w bs framed right k lt in
    let lt' : k < length (amounts_at w s.c) = subst (λ fs. k < length (amounts_at w (first_of (tagged 2 fs)).content)) s.fields lt in
    found_at w bs k s (omega (arith, lt', length_cut w (length s.c / w) s.c)) right

-- The fields that are read are those that lie end to end. Assumes nothing.
use Rattle.std.proofs.Common.{◌≡◌, ℕ, zero, suc, ◌+◌, ◌*◌, ◌≤◌, true, ◌⊎◌, List, [], ◌∷◌, ◌++◌, length, take, drop, is_ok, Some, None, Ok, Err, Option, sym, refl, ap, ◌∙◌, subst, inl, inr, ⊎_elim, append_assoc, append-nil, arith}
use Rattle.std.specs.Option.{option_map}
use Rattle.std.proofs.lemmas.List.{take-append-drop, take_at, drop_at, length-take-le, length-append, take_all}
use Rattle.std.proofs.lemmas.Bool.{leb-true, le-leb, cond-true, cond-false, eq-eqb, ne_eqb, cases_eq, false≢true}
use Rattle.sheets.specs.Frames.{Raw, size, field_at, fields, span}
use Rattle.sheets.specs.Split.{Splits, none, more, Begins, CutAt, Stated, Framing}
use Rattle.sheets.specs.declared.refusal.Refusal.TheVariants.{Cut}
use Rattle.sheets.specs.Refusals.{framing_of}
use Rattle.sheets.proofs.Walk.{within, turn, fields_more, fields_end, cond_some, none_some}

cases_option : {X : Type 0} (o : Option X) → (o ≡ None) ⊎ ((x : X) × (o ≡ Some x))
cases_option None = inl refl
cases_option (Some x) = inr (x, refl)

three : (n : ℕ) → 3 + n ≡ suc (suc (suc n))
three n = omega arith

-- a field that is found stands at the front
pub record Front (bs : List ℕ) (f : Raw) : Type 0 where
  pub high : ℕ
  pub low : ℕ
  pub long : length f.content ≡ high * 256 + low
  pub is : bs ≡ f.tag ∷ high ∷ low ∷ f.content ++ drop (size f) bs

pub front_of : (bs : List ℕ) (f : Raw) → field_at bs ≡ Some f → Front bs f
front_of [] f e = absurd (none_some f e)
front_of (t ∷ []) f e = absurd (none_some f e)
front_of (t ∷ a ∷ []) f e = absurd (none_some f e)
front_of (t ∷ a ∷ b ∷ rest) f e =
    let p = cond_some _ _ _ e in
    let le = leb-true (a * 256 + b) (length rest) p.0 in
    let n : length (take (a * 256 + b) rest) ≡ a * 256 + b = length-take-le (a * 256 + b) rest le in
    subst (Front (t ∷ a ∷ b ∷ rest)) p.1 (record {
      high = a;
      low = b;
      long = n;
      is = rw (n, three) (ap (λ l. t ∷ a ∷ b ∷ l) (sym (take-append-drop (a * 256 + b) rest)));
    })

-- and a field that stands at the front is found
pub found : (t h l : ℕ) (content rest : List ℕ) → length content ≡ h * 256 + l → field_at (t ∷ h ∷ l ∷ content ++ rest) ≡ Some (record { tag = t; content = content })
found t h l content rest e =
    cond-true _ _ _ (le-leb (h * 256 + l) (length (content ++ rest)) (omega (arith, length-append content rest)))
    ∙ ap (λ c. Some (record { tag = t; content = c })) (take_at content rest _ e)

pub unique : {bs : List ℕ} {fs : List Raw} → Splits bs fs → fields bs ≡ fs
unique none = fields_end [] refl
unique (more t h l content rest gs e s) =
    let here = found t h l content rest e in
    let next : drop (3 + length content) (t ∷ h ∷ l ∷ content ++ rest) ≡ rest = rw three (drop_at content rest (length content) refl) in
    fields_more (t ∷ h ∷ l ∷ content ++ rest) (record { tag = t; content = content }) here
    ∙ ap (λ l. record { tag = t; content = content } ∷ fields l) next
    ∙ ap (λ gs. record { tag = t; content = content } ∷ gs) (unique s)

pub take_past : (p q : List ℕ) (n s : ℕ) → n ≡ length p + s → take n (p ++ q) ≡ p ++ take s q
take_past [] q n s e = ap (λ i. take i q) (omega arith)
take_past (x ∷ p) q zero s e = absurd (omega arith)
take_past (x ∷ p) q (suc n) s e = ap (λ l. x ∷ l) (take_past p q n s (omega arith))

pub drop_past : (p q : List ℕ) (n s : ℕ) → n ≡ length p + s → drop n (p ++ q) ≡ drop s q
drop_past [] q n s e = ap (λ i. drop i q) (omega arith)
drop_past (x ∷ p) q zero s e = absurd (omega arith)
drop_past (x ∷ p) q (suc n) s e = drop_past p q n s (omega arith)

-- the fields that are read fill the bytes up to where they end, and no field follows
pub record Upto (bs : List ℕ) (fs : List Raw) : Type 0 where
  pub splits : Splits (take (span fs) bs) fs
  pub stops : field_at (drop (span fs) bs) ≡ None
  pub within : span fs ≤ length bs

one_more : (bs after : List ℕ) (f : Raw) (gs : List Raw) → Front bs f → after ≡ drop (size f) bs → size f + length after ≡ length bs → Upto after gs → Upto bs (f ∷ gs)
one_more bs after f gs fr off long u =
    let p : List ℕ = f.tag ∷ fr.high ∷ fr.low ∷ f.content in
    let is : bs ≡ p ++ after = fr.is ∙ ap (λ l. p ++ l) (sym off) in
    let n : span (f ∷ gs) ≡ length p + span gs = omega arith in
    record {
      splits = subst (λ l. Splits l (f ∷ gs)) (sym (ap (take (span (f ∷ gs))) is ∙ take_past p after (span (f ∷ gs)) (span gs) n)) (more f.tag fr.high fr.low f.content (take (span gs) after) gs fr.long u.splits);
      stops = ap field_at (ap (drop (span (f ∷ gs))) is ∙ drop_past p after (span (f ∷ gs)) (span gs) n) ∙ u.stops;
      within = omega (arith, u.within, long);
    }

none_left : (bs : List ℕ) → field_at bs ≡ None → Upto bs (fields bs)
none_left bs e = subst (Upto bs) (sym (fields_end bs e)) (record { splits = none; stops = e; within = omega arith })

upto_in : (n : ℕ) (bs : List ℕ) → length bs ≤ n → Upto bs (fields bs)
upto_in zero bs le = ⊎_elim (none_left bs) (λ some. absurd (omega (arith, within bs some.0 some.1))) (cases_option (field_at bs))
upto_in (suc n) bs le =
    ⊎_elim
    (none_left bs)
    (λ some.
    let f : Raw = some.0 in
    let t = turn bs f (drop (size f) bs) (sym some.1) (sym (ap (option_map (λ g. drop (size g) bs)) some.1)) in
    subst (Upto bs) (sym t.more) (one_more bs (drop (size f) bs) f (fields (drop (size f) bs)) (front_of bs f some.1) refl t.long (upto_in n (drop (size f) bs) (omega (arith, t.long)))))
    (cases_option (field_at bs))

pub upto : (bs : List ℕ) → Upto bs (fields bs)
upto bs = upto_in (length bs) bs (omega arith)

not_begins : (bs : List ℕ) → field_at bs ≡ None → Begins bs → ⊥
not_begins bs e b = none_some _ (sym e ∙ ap field_at b.6 ∙ found b.0 b.1 b.2 b.3 b.4 b.5)

-- fields end to end take all of the bytes
span_splits : {bs : List ℕ} {fs : List Raw} → Splits bs fs → span fs ≡ length bs
span_splits none = refl
span_splits (more t h l content rest gs e s) = omega (arith, span_splits s, length-append content rest)

-- check 1 accepts what lies end to end
pub framing_splits : {bs : List ℕ} {fs : List Raw} → Splits bs fs → framing_of bs ≡ Ok tt
unfolding framing_of
framing_splits {bs} s = cond-true _ _ _ (eq-eqb _ _ (ap span (unique s) ∙ span_splits s))

-- and what it accepts does
pub splits_framed : (bs : List ℕ) → is_ok (framing_of bs) ≡ true → Splits bs (fields bs)
unfolding framing_of
splits_framed bs ok =
    ⊎_elim
    (λ all. subst (λ l. Splits l (fields bs)) (take_all (span (fields bs)) bs (omega (arith, all))) (upto bs).splits)
    (λ part. absurd (false≢true (ap is_ok (sym (cond-false _ _ _ (ne_eqb _ _ part))) ∙ ok)))
    (cases_eq (span (fields bs)) (length bs))

-- fields end to end, and then others
pub fields_splits : {bs : List ℕ} {fs : List Raw} → Splits bs fs → (rest : List ℕ) → fields (bs ++ rest) ≡ fs ++ fields rest
fields_splits none rest = refl
fields_splits (more t h l content bs gs e s) rest =
    let same : t ∷ h ∷ l ∷ (content ++ bs) ++ rest ≡ t ∷ h ∷ l ∷ content ++ (bs ++ rest) = ap (λ x. t ∷ h ∷ l ∷ x) (append_assoc content bs rest) in
    let next : drop (3 + length content) (t ∷ h ∷ l ∷ content ++ (bs ++ rest)) ≡ bs ++ rest = rw three (drop_at content (bs ++ rest) (length content) refl) in
    ap fields same
    ∙ fields_more (t ∷ h ∷ l ∷ content ++ (bs ++ rest)) (record { tag = t; content = content }) (found t h l content (bs ++ rest) e)
    ∙ ap (λ l. record { tag = t; content = content } ∷ fields l) next
    ∙ ap (λ gs. record { tag = t; content = content } ∷ gs) (fields_splits s rest)

-- what check 1 answers says that the bytes are fields end to end, or where they cease to be
framing_stated : (bs : List ℕ) → Stated bs (framing_of bs)
unfolding framing_of
framing_stated bs =
    let u = upto bs in
    ⊎_elim
    (λ all. subst (Stated bs) (sym (cond-true _ _ _ (eq-eqb _ _ all))) (fields bs, subst (λ l. Splits l (fields bs)) (take_all (span (fields bs)) bs (omega arith)) u.splits))
    (λ part. subst (Stated bs) (sym (cond-false _ _ _ (ne_eqb _ _ part)))
    (refl, refl, record { fs = fields bs; before = u.splits; inside = omega (arith, u.within, part); runs_past = not_begins _ u.stops }))
    (cases_eq (span (fields bs)) (length bs))

-- where no field begins, none is read
no_field : (bs : List ℕ) → (Begins bs → ⊥) → fields bs ≡ []
no_field bs n =
    ⊎_elim
    (fields_end bs)
    (λ some. let f = front_of bs some.0 some.1 in absurd (n (some.0.tag, f.high, f.low, some.0.content, drop (size some.0) bs, f.long, f.is)))
    (cases_option (field_at bs))

cut_found : (bs : List ℕ) (p : ℕ) → CutAt bs p → framing_of bs ≡ Err (Cut p)
unfolding framing_of
cut_found bs p c =
    let le : p ≤ length bs = omega (arith, c.inside) in
    let is : fields bs ≡ c.fs =
    ap fields (sym (take-append-drop p bs)) ∙ fields_splits c.before (drop p bs) ∙ ap (λ l. c.fs ++ l) (no_field (drop p bs) c.runs_past) ∙ append-nil c.fs in
    let spans : span (fields bs) ≡ p = ap span is ∙ span_splits c.before ∙ length-take-le p bs le in
    cond-false _ _ _ (ne_eqb (span (fields bs)) (length bs) (λ e. omega (arith, e, spans, c.inside))) ∙ ap (λ n. Err (Cut n)) spans

pub framing_means : (bs : List ℕ) → Framing bs (framing_of bs)
framing_means bs = record { sound = framing_stated bs; accepts = λ fs s. framing_splits s; refuses = cut_found bs }

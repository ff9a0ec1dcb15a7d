-- Lists joined and reduced cover the sums of what they are made of, for every measure and reducer. Assumes nothing.
use Rattle.std.proofs.Common.{◌≡◌, ℕ, zero, suc, ◌+◌, ◌*◌, ◌<◌, ◌≤◌, List, [], ◌∷◌, ◌++◌, length, sym, refl, ap, ◌∙◌, subst, inl, inr, arith}
use Rattle.std.specs.List.{AllByRecursion}
use Rattle.std.proofs.lemmas.List.{length-append}
use Rattle.costs.specs.Amounts.{Amounts, Lawful}
use Rattle.costs.specs.Entries.{amount_alone, entry_ops, count}
use Rattle.costs.specs.Lists.{Among, Sized, CoveredBy, Sound, sums}
use Rattle.costs.specs.Runs.{Sent}
use Rattle.costs.specs.declared.entry.Entry.{Entry}
use Rattle.costs.proofs.Interface.{entry_lawful, zero_plus, among_left, among_right, length_sums, one_among, covered_some, covered_zero, covered_itself, covered_sums, covered_reduced}
use Rattle.sheets.specs.declared.words.Connection.{Connection}
use Rattle.sheets.specs.declared.words.End.{End}
use Rattle.sheets.specs.declared.words.End.TheVariants.{Inside}
use Rattle.networks.specs.Forming.{list}
use Rattle.networks.specs.Networks.{targets, outputs}
use Rattle.networks.specs.Cards.{target_list, Joins, Times, Follows, SourceList, Sends, SendsAll, EntryList, Entries}
use Rattle.networks.specs.Runs.{repeated, arrivals}
use Rattle.networks.proofs.Small.{at_most}

pub repeated_none : {X : Type 0} (n : ℕ) → repeated {X = X} n [] ≡ []
repeated_none zero = refl
repeated_none (suc n) = repeated_none n

-- x is a sum of one entry of the list of each target
abbrev pub Picks : {M : Type 0} → Amounts M → (ℕ → ℕ → List (Entry M)) → List End → Entry M → Type 0
Picks ops T [] x = x ≡ (entry_ops ops).zero
Picks {M} ops T (t ∷ ts) x = (e : Entry M) × (y : Entry M) × (Among e (target_list ops T t) × (Picks ops T ts y × ((entry_ops ops).plus e y ≡ x)))

module _ {M : Type 0} {ops : Amounts M} (laws : Lawful ops) where
  -- a pick over two agendas is one over each
  pub picks_append : (T : ℕ → ℕ → List (Entry M)) (fs bs : List End) (x : Entry M) → Picks ops T (fs ++ bs) x → (u : Entry M) × (v : Entry M) × (Picks ops T fs u × (Picks ops T bs v × ((entry_ops ops).plus u v ≡ x)))
  picks_append T [] bs x h = ((entry_ops ops).zero, x, (refl, (h, zero_plus (entry_lawful laws) x)))
  picks_append T (a ∷ fs) bs x (e, y, (m, (h, is))) =
      let r = picks_append T fs bs y h in (
        (entry_ops ops).plus e r.0,
        r.1,
        (
          (e, r.0, (m, (r.2.0, refl))),
          (
            r.2.1.0,
            (entry_lawful laws).associative e r.0 r.1 ∙ ap ((entry_ops ops).plus e) r.2.1.1 ∙ is,
          ),
        ),
      )

  pub picks_some : (T : ℕ → ℕ → List (Entry M)) (ts : List End) → AllByRecursion (λ t. Sized (target_list ops T t)) ts → (x : Entry M) × Picks ops T ts x
  picks_some T [] all = ((entry_ops ops).zero, refl)
  picks_some T (t ∷ ts) all =
      let e = one_among (target_list ops T t) all.0.0 in
      let r = picks_some T ts all.1 in
      ((entry_ops ops).plus e.0 r.0, (e.0, r.0, (e.1, (r.1, refl))))

pub low_outputs : AllByRecursion (λ o. o < 8) outputs
unfolding outputs
low_outputs = (omega arith, (omega arith, (omega arith, (omega arith, (omega arith, (omega arith, (omega arith, (omega arith, tt))))))))

module _ {M : Type 0} {ops : Amounts M} {gives : List (Entry M) → List (Entry M) → Type 0} (laws : Lawful ops) (sound : Sound ops gives) where
  pub join_over : (xs ys zs : List (Entry M)) (w v : Entry M) → length xs ≤ 16 → length ys ≤ 16 → Joins ops gives xs ys (list zs) → CoveredBy (entry_ops ops) xs w → CoveredBy (entry_ops ops) ys v → CoveredBy (entry_ops ops) zs ((entry_ops ops).plus w v)
  join_over xs ys zs w v sx sy (g, sz) over over' =
      covered_reduced laws sound (sums (entry_ops ops) xs ys) zs ((entry_ops ops).plus w v) (omega (arith, length_sums (entry_ops ops) xs ys, at_most (length xs) (length ys) sx sy)) g
      (covered_sums (entry_lawful laws) xs ys w v over over')

  pub follows_over : (T : ℕ → ℕ → List (Entry M)) (ts : List End) (xs zs : List (Entry M)) (w y : Entry M) → AllByRecursion (λ t. Sized (target_list ops T t)) ts → length xs ≤ 16
      → Follows ops gives T ts xs (list zs) → CoveredBy (entry_ops ops) xs w → Picks ops T ts y → CoveredBy (entry_ops ops) zs ((entry_ops ops).plus w y)
  follows_over T [] xs zs w y all sx is o none = subst (λ l. CoveredBy (entry_ops ops) l ((entry_ops ops).plus w y)) (sym is) (subst (CoveredBy (entry_ops ops) xs) (sym (ap ((entry_ops ops).plus w) none ∙ (entry_lawful laws).neutral w)) o)
  follows_over T (t ∷ ts) xs zs w y all sx (ys, (joins, rest)) o (e, z, (m, (h, is))) =
      let next = join_over xs (target_list ops T t) ys w e sx all.0.1 joins o (covered_itself (entry_lawful laws) e (target_list ops T t) m) in
      subst (CoveredBy (entry_ops ops) zs) ((entry_lawful laws).associative w e z ∙ ap ((entry_ops ops).plus w) is)
      (follows_over T ts ys zs ((entry_ops ops).plus w e) z all.1 joins.1 rest next h)

  pub follows_short : (T : ℕ → ℕ → List (Entry M)) (ts : List End) (xs zs : List (Entry M)) → length xs ≤ 16 → Follows ops gives T ts xs (list zs) → length zs ≤ 16
  follows_short T [] xs zs sx is = subst (λ l. length l ≤ 16) (sym is) sx
  follows_short T (t ∷ ts) xs zs sx (ys, (joins, rest)) = follows_short T ts ys zs joins.1 rest

  pub source_over : (T : ℕ → ℕ → List (Entry M)) (ts : List End) (zs : List (Entry M)) (y : Entry M) → AllByRecursion (λ t. Sized (target_list ops T t)) ts → SourceList ops gives T ts (list zs) → Picks ops T ts y → CoveredBy (entry_ops ops) zs y
  source_over T ts zs y all is h =
      subst (CoveredBy (entry_ops ops) zs) (zero_plus (entry_lawful laws) y)
      (follows_over T ts ((entry_ops ops).zero ∷ []) zs (entry_ops ops).zero y all (omega arith) is (covered_itself (entry_lawful laws) (entry_ops ops).zero ((entry_ops ops).zero ∷ []) (inl refl)) h)

  pub source_sized : (T : ℕ → ℕ → List (Entry M)) (ts : List End) (zs : List (Entry M)) → AllByRecursion (λ t. Sized (target_list ops T t)) ts → SourceList ops gives T ts (list zs) → Sized zs
  source_sized T ts zs all is =
      let p = picks_some laws T ts all in
      (covered_some (entry_lawful laws) zs p.0 (source_over T ts zs p.0 all is p.1), follows_short T ts ((entry_ops ops).zero ∷ []) zs (omega arith) is)

  -- more joinings cover fewer
  pub times_over : (T : ℕ → ℕ → List (Entry M)) (ts : List End) (n m : ℕ) (ys xs zs : List (Entry M)) (w y : Entry M) → m ≤ n → Sized ys → ((v : Entry M) → Picks ops T ts v → CoveredBy (entry_ops ops) ys v) → length xs ≤ 16
      → Times ops gives n ys xs (list zs) → CoveredBy (entry_ops ops) xs w → Picks ops T (repeated m ts) y → CoveredBy (entry_ops ops) zs ((entry_ops ops).plus w y)
  times_over T ts zero zero ys xs zs w y le sy each sx is o none =
      subst (λ l. CoveredBy (entry_ops ops) l ((entry_ops ops).plus w y)) (sym is) (subst (CoveredBy (entry_ops ops) xs) (sym (ap ((entry_ops ops).plus w) none ∙ (entry_lawful laws).neutral w)) o)
  times_over T ts zero (suc m) ys xs zs w y le sy each sx is o h = absurd (omega arith)
  times_over T ts (suc n) zero ys xs zs w y le sy each sx (us, (joins, rest)) o none =
      let next = join_over xs ys us w (entry_ops ops).zero sx sy.1 joins o (covered_zero (entry_lawful laws) ys sy.0) in
      subst (λ v. CoveredBy (entry_ops ops) zs ((entry_ops ops).plus v y)) ((entry_lawful laws).neutral w)
      (times_over T ts n zero ys us zs ((entry_ops ops).plus w (entry_ops ops).zero) y (omega arith) sy each joins.1 rest next none)
  times_over T ts (suc n) (suc m) ys xs zs w y le sy each sx (us, (joins, rest)) o h =
      let p = picks_append laws T ts (repeated m ts) y h in
      let next = join_over xs ys us w p.0 sx sy.1 joins o (each p.0 p.2.0) in
      subst (CoveredBy (entry_ops ops) zs) ((entry_lawful laws).associative w p.0 p.1 ∙ ap ((entry_ops ops).plus w) p.2.1.1)
      (times_over T ts n m ys us zs ((entry_ops ops).plus w p.0) p.1 (omega arith) sy each joins.1 rest next p.2.1.0)

  pub times_short : (n : ℕ) (ys xs zs : List (Entry M)) → length xs ≤ 16 → Times ops gives n ys xs (list zs) → length zs ≤ 16
  times_short zero ys xs zs sx is = subst (λ l. length l ≤ 16) (sym is) sx
  times_short (suc n) ys xs zs sx (us, (joins, rest)) = times_short n ys us zs joins.1 rest

  -- what a pick over no targets adds
  over_none : (T : ℕ → ℕ → List (Entry M)) (ts : List End) (xs zs : List (Entry M)) (w y : Entry M) → ts ≡ [] → zs ≡ xs → CoveredBy (entry_ops ops) xs w → Picks ops T ts y → CoveredBy (entry_ops ops) zs ((entry_ops ops).plus w y)
  over_none T ts xs zs w y none is o h =
      let zero' : y ≡ (entry_ops ops).zero = subst (λ l. Picks ops T l y) none h in
      subst (λ l. CoveredBy (entry_ops ops) l ((entry_ops ops).plus w y)) (sym is) (subst (CoveredBy (entry_ops ops) xs) (sym (ap ((entry_ops ops).plus w) zero' ∙ (entry_lawful laws).neutral w)) o)

  le_zero : (m : ℕ) → m ≤ 0 → m ≡ 0
  le_zero m h = omega arith

  pub sends_over : (T : ℕ → ℕ → List (Entry M)) (ts : List End) (n m : ℕ) (xs zs : List (Entry M)) (w y : Entry M) → AllByRecursion (λ t. Sized (target_list ops T t)) ts → ((t : End) → Among t ts → m ≤ n) → length xs ≤ 16
      → Sends ops gives T ts n xs (list zs) → CoveredBy (entry_ops ops) xs w → Picks ops T (repeated m ts) y → CoveredBy (entry_ops ops) zs ((entry_ops ops).plus w y)
  sends_over T [] n m xs zs w y all le sx is o h = over_none T (repeated m []) xs zs w y (repeated_none m) is o h
  sends_over T (t ∷ ts) zero m xs zs w y all le sx is o h =
      over_none T (repeated m (t ∷ ts)) xs zs w y (ap (λ k. repeated k (t ∷ ts)) (le_zero m (le t (inl refl)))) is o h
  sends_over T (t ∷ ts) (suc n) m xs zs w y all le sx (ys, (source, rest)) o h =
      times_over T (t ∷ ts) (suc n) m ys xs zs w y (le t (inl refl)) (source_sized T (t ∷ ts) ys all source) (λ v p. source_over T (t ∷ ts) ys v all source p) sx rest o h

  pub sends_short : (T : ℕ → ℕ → List (Entry M)) (ts : List End) (n : ℕ) (xs zs : List (Entry M)) → length xs ≤ 16 → Sends ops gives T ts n xs (list zs) → length zs ≤ 16
  sends_short T [] n xs zs sx is = subst (λ l. length l ≤ 16) (sym is) sx
  sends_short T (t ∷ ts) zero xs zs sx is = subst (λ l. length l ≤ 16) (sym is) sx
  sends_short T (t ∷ ts) (suc n) xs zs sx (ys, (source, rest)) = times_short (suc n) ys xs zs sx rest

  module _ (T : ℕ → ℕ → List (Entry M)) (cs : List Connection) (i : ℕ) (sized : (o : ℕ) → AllByRecursion (λ t. Sized (target_list ops T t)) (targets cs (Inside i o))) where
    pub sends_all_over : (e : Entry M) (ns : Sent) → ((o : ℕ) → o < 8 → (t : End) → Among t (targets cs (Inside i o)) → ns o ≤ count e o) → (os : List ℕ) → AllByRecursion (λ o. o < 8) os → (xs zs : List (Entry M)) (w y : Entry M) → length xs ≤ 16
        → SendsAll ops gives T cs i e os xs (list zs) → CoveredBy (entry_ops ops) xs w → Picks ops T (arrivals cs i ns os) y → CoveredBy (entry_ops ops) zs ((entry_ops ops).plus w y)
    sends_all_over e ns le [] low xs zs w y sx is o h = over_none T [] xs zs w y refl is o h
    sends_all_over e ns le (k ∷ os) low xs zs w y sx (ys, (sends, rest)) o h =
        let p = picks_append laws T (repeated (ns k) (targets cs (Inside i k))) (arrivals cs i ns os) y h in
        let next = sends_over T (targets cs (Inside i k)) (count e k) (ns k) xs ys w p.0 (sized k) (le k low.0) sx sends o p.2.0 in
        subst (CoveredBy (entry_ops ops) zs) ((entry_lawful laws).associative w p.0 p.1 ∙ ap ((entry_ops ops).plus w) p.2.1.1)
        (sends_all_over e ns le os low.1 ys zs ((entry_ops ops).plus w p.0) p.1 (sends_short T (targets cs (Inside i k)) (count e k) xs ys sx sends) rest next p.2.1.0)

    pub sends_all_short : (e : Entry M) (os : List ℕ) (xs zs : List (Entry M)) → length xs ≤ 16 → SendsAll ops gives T cs i e os xs (list zs) → length zs ≤ 16
    sends_all_short e [] xs zs sx is = subst (λ l. length l ≤ 16) (sym is) sx
    sends_all_short e (k ∷ os) xs zs sx (ys, (sends, rest)) = sends_all_short e os ys zs (sends_short T (targets cs (Inside i k)) (count e k) xs ys sx sends) rest

    -- what stands before the lists still to come
    entries_keep : (es xs zs : List (Entry M)) (w : Entry M) → length xs + 16 * length es ≤ 1024 → Entries ops gives T cs i es xs (list zs) → CoveredBy (entry_ops ops) xs w → CoveredBy (entry_ops ops) zs w
    entries_keep [] xs zs w few (g, sz) o = covered_reduced laws sound xs zs w (omega arith) g o
    entries_keep (e ∷ es) xs zs w few (ys, (entry, rest)) o =
        let short = sends_all_short e outputs (amount_alone e.amount ∷ []) ys (omega arith) entry in
        entries_keep es (xs ++ ys) zs w (omega (arith, length-append xs ys)) rest (record { one = o.one; listed = among_left o.one xs ys o.listed; covers = o.covers })

    -- a card entry with a pick of what it sends, or of less
    pub entries_over : (c : Entry M) (ns : Sent) → ((o : ℕ) → o < 8 → (t : End) → Among t (targets cs (Inside i o)) → ns o ≤ count c o) → (y : Entry M) → Picks ops T (arrivals cs i ns outputs) y
        → (es xs zs : List (Entry M)) → length xs + 16 * length es ≤ 1024 → Among c es → Entries ops gives T cs i es xs (list zs) → CoveredBy (entry_ops ops) zs ((entry_ops ops).plus (amount_alone c.amount) y)
    entries_over c ns le y h [] xs zs few m formed = absurd m
    entries_over c ns le y h (e ∷ es) xs zs few (inr m) (ys, (entry, rest)) =
        let short = sends_all_short e outputs (amount_alone e.amount ∷ []) ys (omega arith) entry in
        entries_over c ns le y h es (xs ++ ys) zs (omega (arith, length-append xs ys)) m rest
    entries_over c ns le y h (e ∷ es) xs zs few (inl same) (ys, (entry, rest)) =
        let entry' : EntryList ops gives T cs i c (list ys) = subst (λ d. EntryList ops gives T cs i d (list ys)) same entry in
        let start : Entry M = amount_alone c.amount in
        let short = sends_all_short c outputs (start ∷ []) ys (omega arith) entry' in
        let o = sends_all_over c ns le outputs low_outputs (start ∷ []) ys start y (omega arith) entry' (covered_itself (entry_lawful laws) start (start ∷ []) (inl refl)) h in
        entries_keep es (xs ++ ys) zs ((entry_ops ops).plus start y) (omega (arith, length-append xs ys)) rest (record { one = o.one; listed = among_right o.one xs ys o.listed; covers = o.covers })

-- Where the reducer only selects, each entry of a network's lists is that of a run. Assumes nothing.
use Rattle.std.proofs.Common.{◌≡◌, ℕ, zero, suc, ◌+◌, ◌*◌, ◌/◌, ◌%◌, ◌<◌, ◌≤◌, ◌⊎◌, List, [], ◌∷◌, ◌++◌, sym, refl, ap, ◌∙◌, subst, inl, inr, ⊎_elim, arith}
use Rattle.std.specs.List.{AllByRecursion}
use Rattle.std.proofs.ByRecursion.{All-weaker, All-append}
use Rattle.std.proofs.lemmas.List.{append-nil}
use Rattle.std.proofs.lemmas.Bool.{cases_lt}
use Rattle.costs.specs.Amounts.{Amounts, Lawful}
use Rattle.costs.specs.Entries.{amount_alone, one_sent, entry_ops, count}
use Rattle.costs.specs.Lists.{Among, Selects, sums}
use Rattle.costs.specs.Runs.{Sent, none_sent, once_sent, both_sent, SameCount, IsRun, RunOf, AreRuns}
use Rattle.costs.specs.declared.entry.Entry.{Entry}
use Rattle.costs.proofs.Interface.{entry_lawful, zero_plus, all_among, among_append, among_unsummed, is_run_as, is_run_alone, is_run_once, is_run_both}
use Rattle.order.proofs.Induction.{by_order}
use Rattle.sheets.specs.declared.words.Connection.{Connection}
use Rattle.sheets.specs.declared.words.End.{End}
use Rattle.sheets.specs.declared.words.End.TheVariants.{Outside, Inside}
use Rattle.networks.specs.Forming.{list}
use Rattle.networks.specs.Networks.{Network, targets, outputs, Node, Place, Target, Named, Fit, NoneFull}
use Rattle.networks.specs.Cards.{target_list, Joins, Times, Follows, SourceList, Sends, SendsAll, Entries, EventList, Worked, Card}
use Rattle.networks.specs.Runs.{repeated, arrivals, Served, nothing_left, arrives_outside, arrives_inside, Run}
use Rattle.networks.specs.Promises.{Attains}
use Rattle.networks.proofs.Joining.{Picks, repeated_none, low_outputs}
use Rattle.networks.proofs.Covering.{all_repeated, none_full_at}
use Rattle.networks.proofs.Forming.{reach_one}
use Rattle.networks.proofs.Places.{source_targets, place_end, place_node, at_place}

repeated_same : {X : Type 0} (xs : List X) (n k : ℕ) → ((x : X) → Among x xs → n ≡ k) → repeated n xs ≡ repeated k xs
repeated_same [] n k h = repeated_none n ∙ sym (repeated_none k)
repeated_same (x ∷ xs) n k h = ap (λ m. repeated m (x ∷ xs)) (h x (inl refl))

-- z is x of the list with a pick over the agenda
pub record From {M : Type 0} (ops : Amounts M) (T : ℕ → ℕ → List (Entry M)) (xs : List (Entry M)) (ts : List End) (z : Entry M) : Type 0 where
  pub start : Entry M
  pub listed : Among start xs
  pub more : Entry M
  pub picks : Picks ops T ts more
  pub is : (entry_ops ops).plus start more ≡ z

module _ {M : Type 0} {ops : Amounts M} {gives : List (Entry M) → List (Entry M) → Type 0} (laws : Lawful ops) (selects : Selects gives) (T : ℕ → ℕ → List (Entry M)) where
  picks_both : (fs bs : List End) (u v : Entry M) → Picks ops T fs u → Picks ops T bs v → Picks ops T (fs ++ bs) ((entry_ops ops).plus u v)
  picks_both [] bs u v none h = subst (Picks ops T bs) (sym (ap (λ x. (entry_ops ops).plus x v) none ∙ zero_plus (entry_lawful laws) v)) h
  picks_both (t ∷ fs) bs u v (e, y, (m, (p, is))) h =
      (e, (entry_ops ops).plus y v, (m, (picks_both fs bs y v p h, sym ((entry_lawful laws).associative e y v) ∙ ap (λ x. (entry_ops ops).plus x v) is)))

  stays : (xs zs : List (Entry M)) (ts : List End) (z : Entry M) → ts ≡ [] → zs ≡ xs → Among z zs → From ops T xs ts z
  stays xs zs ts z none is m = record {
    start = z;
    listed = subst (Among z) is m;
    more = (entry_ops ops).zero;
    picks = subst (λ l. Picks ops T l (entry_ops ops).zero) (sym none) refl;
    is = (entry_lawful laws).neutral z;
  }

  from_join : (xs ys zs : List (Entry M)) → Joins ops gives xs ys (list zs) → (z : Entry M) → Among z zs → (x : Entry M) × (y : Entry M) × (Among x xs × (Among y ys × ((entry_ops ops).plus x y ≡ z)))
  from_join xs ys zs (g, short) z m = among_unsummed (entry_ops ops) z xs ys (selects (sums (entry_ops ops) xs ys) zs g z m)

  -- a step before
  from_more : (xs : List (Entry M)) (fs bs : List End) (x y u v z : Entry M) → Among x xs → Picks ops T fs y → (entry_ops ops).plus x y ≡ u → Picks ops T bs v → (entry_ops ops).plus u v ≡ z → From ops T xs (fs ++ bs) z
  from_more xs fs bs x y u v z m p is q all = record {
    start = x;
    listed = m;
    more = (entry_ops ops).plus y v;
    picks = picks_both fs bs y v p q;
    is = sym ((entry_lawful laws).associative x y v) ∙ ap (λ w. (entry_ops ops).plus w v) is ∙ all;
  }

  from_follows : (ts : List End) (xs zs : List (Entry M)) → Follows ops gives T ts xs (list zs) → (z : Entry M) → Among z zs → From ops T xs ts z
  from_follows [] xs zs is z m = stays xs zs [] z refl is m
  from_follows (t ∷ ts) xs zs (us, (joins, rest)) z m =
      let r = from_follows ts us zs rest z m in
      let j = from_join xs (target_list ops T t) us joins r.start r.listed in
      from_more xs (t ∷ []) ts j.0 j.1 r.start r.more z j.2.0 (j.1, (entry_ops ops).zero, (j.2.1.0, (refl, (entry_lawful laws).neutral j.1))) j.2.1.1 r.picks r.is

  pub from_source : (ts : List End) (zs : List (Entry M)) → SourceList ops gives T ts (list zs) → (z : Entry M) → Among z zs → Picks ops T ts z
  from_source ts zs is z m =
      let r = from_follows ts ((entry_ops ops).zero ∷ []) zs is z m in
      let first : (entry_ops ops).zero ≡ r.start = ⊎_elim (λ e. e) (λ none. absurd none) r.listed in
      subst (Picks ops T ts) (sym (zero_plus (entry_lawful laws) r.more) ∙ ap (λ x. (entry_ops ops).plus x r.more) first ∙ r.is) r.picks

  from_times : (ts : List End) (ys : List (Entry M)) → ((y : Entry M) → Among y ys → Picks ops T ts y) → (n : ℕ) (xs zs : List (Entry M)) → Times ops gives n ys xs (list zs) → (z : Entry M) → Among z zs → From ops T xs (repeated n ts) z
  from_times ts ys each zero xs zs is z m = stays xs zs [] z refl is m
  from_times ts ys each (suc n) xs zs (us, (joins, rest)) z m =
      let r = from_times ts ys each n us zs rest z m in
      let j = from_join xs ys us joins r.start r.listed in
      from_more xs ts (repeated n ts) j.0 j.1 r.start r.more z j.2.0 (each j.1 j.2.1.0) j.2.1.1 r.picks r.is

  from_sends : (ts : List End) (n : ℕ) (xs zs : List (Entry M)) → Sends ops gives T ts n xs (list zs) → (z : Entry M) → Among z zs → From ops T xs (repeated n ts) z
  from_sends [] n xs zs is z m = stays xs zs (repeated n []) z (repeated_none n) is m
  from_sends (t ∷ ts) zero xs zs is z m = stays xs zs [] z refl is m
  from_sends (t ∷ ts) (suc n) xs zs (ys, (source, rest)) z m = from_times (t ∷ ts) ys (from_source (t ∷ ts) ys source) (suc n) xs zs rest z m

  module _ (cs : List Connection) (i : ℕ) where
    from_sends_all : (e : Entry M) (os : List ℕ) (xs zs : List (Entry M)) → SendsAll ops gives T cs i e os xs (list zs) → (z : Entry M) → Among z zs → From ops T xs (arrivals cs i (count e) os) z
    from_sends_all e [] xs zs is z m = stays xs zs [] z refl is m
    from_sends_all e (o ∷ os) xs zs (us, (sends, rest)) z m =
        let r = from_sends_all e os us zs rest z m in
        let j = from_sends (targets cs (Inside i o)) (count e o) xs us sends r.start r.listed in
        from_more xs (repeated (count e o) (targets cs (Inside i o))) (arrivals cs i (count e) os) j.start j.more r.start r.more z j.listed j.picks j.is r.picks r.is

    -- some card entry with a pick of what it sends
    from_entries : (es xs zs : List (Entry M)) → Entries ops gives T cs i es xs (list zs) → (z : Entry M) → Among z zs
        → Among z xs ⊎ ((c : Entry M) × (Among c es × From ops T (amount_alone c.amount ∷ []) (arrivals cs i (count c) outputs) z))
    from_entries [] xs zs (g, short) z m = inl (selects xs zs g z m)
    from_entries (e ∷ es) xs zs (ys, (entry, rest)) z m =
        ⊎_elim
        (λ old. ⊎_elim inl
        (λ new. inr (e, (inl refl, from_sends_all e outputs (amount_alone e.amount ∷ []) ys entry z new)))
        (among_append z xs ys old))
        (λ later. inr (later.0, (inr later.1.0, later.1.1)))
        (from_entries es (xs ++ ys) zs rest z m)

module _ {M : Type 0} {ops : Amounts M} {gives : List (Entry M) → List (Entry M) → Type 0} (laws : Lawful ops) (selects : Selects gives)
    (net : Network) (few : net.outputs ≤ 8) (card : ℕ → ℕ → List (Entry M)) (Runs : ℕ → ℕ → M → Sent → Type 0) (named : Named net) (fit : Fit net card) (none : NoneFull net card)
    (are : (i f : ℕ) → Place net i f → AreRuns (card i f) (Runs i f))
    (T : ℕ → ℕ → List (Entry M)) (worked : Worked ops gives net card T) where
  -- the agenda can be served at the cost x
  abbrev Realized : List End → Entry M → Type 0
  Realized fs x = RunOf (Served ops net.connections Runs fs) x

  -- whatever else is to be served, an arrival at t can be served at the cost of each entry of its list
  abbrev Realizes : End → Type 0
  Realizes t = (e : Entry M) → Among e (target_list ops T t) → (rest : List End) (x : Entry M) → Realized rest x → Realized (t ∷ rest) ((entry_ops ops).plus e x)

  realize_picks : (ts : List End) → AllByRecursion Realizes ts → (y : Entry M) → Picks ops T ts y → (rest : List End) (x : Entry M) → Realized rest x → Realized (ts ++ rest) ((entry_ops ops).plus y x)
  realize_picks [] all y nothing rest x r = subst (Realized rest) (sym (ap (λ v. (entry_ops ops).plus v x) nothing ∙ zero_plus (entry_lawful laws) x)) r
  realize_picks (t ∷ ts) all y (e, z, (m, (h, is))) rest x r =
      subst (Realized (t ∷ (ts ++ rest))) (sym ((entry_lawful laws).associative e z x) ∙ ap (λ v. (entry_ops ops).plus v x) is)
      (all.0 e m (ts ++ rest) ((entry_ops ops).plus z x) (realize_picks ts all.1 z h rest x r))

  realize_outside : (p : ℕ) → p < 8 → Realizes (Outside p)
  realize_outside p within e m rest x r =
      let start = one_sent ops p in
      let first : start ≡ e = ⊎_elim (λ h. h) (λ h. absurd h) m in
      subst (λ v. Realized (Outside p ∷ rest) ((entry_ops ops).plus v x)) first (record {
        amount = r.amount;
        sent = both_sent (once_sent p) r.sent;
        run = arrives_outside p rest r.amount r.sent r.run;
        is = subst (λ a. IsRun ((entry_ops ops).plus start x) a (both_sent (once_sent p) r.sent)) (zero_plus laws r.amount) (is_run_both ops start x ops.zero r.amount (once_sent p) r.sent (is_run_once ops p within) r.is);
      })

  same_arrivals : (i f : ℕ) → Place net i f → (c : Entry M) → Among c (card i f) → (ns : Sent) → ((o : ℕ) → o < 8 → SameCount (count c o) (ns o)) → (os : List ℕ) → AllByRecursion (λ o. o < 8) os → arrivals net.connections i (count c) os ≡ arrivals net.connections i ns os
  same_arrivals i f place c m ns same [] low = refl
  same_arrivals i f place c m ns same (o ∷ os) low =
      ap (λ l. l ++ arrivals net.connections i (count c) os) (repeated_same (targets net.connections (Inside i o)) (count c o) (ns o) (λ t led.
      ⊎_elim
      (λ e. e)
      (λ full. absurd (none_full_at net card fit none i f place (record { entry = c; listed = m; output = o; counted = full.0; connected = (t, led) })))
      (same o low.0)))
      ∙ ap (λ l. repeated (ns o) (targets net.connections (Inside i o)) ++ l) (same_arrivals i f place c m ns same os low.1)

  counted_arrivals : (P : End → Type 0) (i : ℕ) (ns : Sent) → ((o : ℕ) → 0 < ns o → AllByRecursion P (targets net.connections (Inside i o))) → (os : List ℕ) → AllByRecursion P (arrivals net.connections i ns os)
  counted_arrivals P i ns h [] = tt
  counted_arrivals P i ns h (o ∷ os) =
      All-append P (repeated (ns o) (targets net.connections (Inside i o))) (arrivals net.connections i ns os)
      (⊎_elim (λ pos. all_repeated P (ns o) (targets net.connections (Inside i o)) (h o pos)) (λ zero'. subst (λ n. AllByRecursion P (repeated n (targets net.connections (Inside i o)))) (le_zero zero') tt) (cases_lt 0 (ns o)))
      (counted_arrivals P i ns h os)
    where
      le_zero : {n : ℕ} → n ≤ 0 → 0 ≡ n
      le_zero h = omega arith

  realize_inside : (i f : ℕ) → Place net i f → ((c : Entry M) → Among c (card i f) → (o : ℕ) → 0 < count c o → AllByRecursion Realizes (targets net.connections (Inside i o))) → Realizes (Inside i f)
  realize_inside i f place before z m rest x r =
      ⊎_elim
      (λ nothing. absurd nothing)
      (λ h. entry h.0 h.1.0 h.1.1)
      (from_entries laws selects T net.connections i (card i f) [] (T i f) (worked.places i f place).formed z m)
    where
      entry : (c : Entry M) → Among c (card i f) → From ops T (amount_alone c.amount ∷ []) (arrivals net.connections i (count c) outputs) z → Realized (Inside i f ∷ rest) ((entry_ops ops).plus z x)
      entry c mc fr =
          let start : Entry M = amount_alone c.amount in
          let first : start ≡ fr.start = ⊎_elim (λ e. e) (λ h. absurd h) fr.listed in
          let run = are i f place c mc in
          let y : Entry M = (entry_ops ops).plus fr.more x in
          let on = realize_picks (arrivals net.connections i (count c) outputs) (counted_arrivals Realizes i (count c) (before c mc) outputs) fr.more fr.picks rest x r in
          let served = subst (λ l. Served ops net.connections Runs (l ++ rest) on.amount on.sent) (same_arrivals i f place c mc run.sent run.is.counts outputs low_outputs) on.run in
          subst (Realized (Inside i f ∷ rest)) (sym ((entry_lawful laws).associative start fr.more x) ∙ ap (λ v. (entry_ops ops).plus v x) (ap (λ v. (entry_ops ops).plus v fr.more) first ∙ fr.is))
          (record {
            amount = ops.plus run.amount on.amount;
            sent = on.sent;
            run = arrives_inside i f rest run.amount run.sent on.amount on.sent run.run served;
            is = is_run_as ((entry_ops ops).plus start y) (ops.plus run.amount on.amount) (both_sent none_sent on.sent) on.sent (λ o l. omega arith)
                (is_run_both ops start y run.amount on.amount none_sent on.sent (record { amount = run.is.amount; counts = (is_run_alone c.amount).counts }) on.is);
          })

  every_place : (n : ℕ) → Node net n → Realizes (Inside (n / 8) (n % 8))
  every_place = by_order worked.complete (λ n. Realizes (Inside (n / 8) (n % 8))) (λ n node before.
      realize_inside (n / 8) (n % 8) node (λ c mc o pos. all_among Realizes (targets net.connections (Inside (n / 8) o)) (λ t led.
      reach_one net few card named fit.narrow n Realizes realize_outside (λ j g place leads. subst Realizes (place_end net fit.narrow j g place) (before (8 * j + g) leads)) c mc o pos t led)))

  every_target : (t : End) → Target net t → Realizes t
  every_target (Outside p) target = realize_outside p (omega (arith, target))
  every_target (Inside j g) place = at_place net fit.narrow j g place (λ i f. Realizes (Inside i f)) (every_place (8 * j + g) (place_node net fit.narrow j g place))

  event_attained : (e : ℕ) (es : List (Entry M)) → EventList ops gives T net.connections e (list es) → AreRuns es (Run ops net.connections Runs e)
  event_attained e es is z m =
      let ts = targets net.connections (Outside e) in
      let r = realize_picks ts (All-weaker _ _ every_target ts (source_targets net named (Outside e))) z (from_source laws selects T ts es is z m) [] (entry_ops ops).zero
      (record { amount = ops.zero; sent = none_sent; run = nothing_left; is = is_run_alone ops.zero }) in
      subst (λ l. Realized l z) (append-nil ts) (subst (Realized (ts ++ [])) ((entry_lawful laws).neutral z) r)

pub network_attained : {M : Type 0} {ops : Amounts M} {gives : List (Entry M) → List (Entry M) → Type 0} → Lawful ops → Selects gives
    → (net : Network) → net.outputs ≤ 8 → (card : ℕ → ℕ → List (Entry M)) (Runs : ℕ → ℕ → M → Sent → Type 0) → Named net → Fit net card → NoneFull net card
    → (lists : ℕ → List (Entry M)) → Card ops gives net card lists → Attains ops net card Runs lists
network_attained laws selects net few card Runs named fit none lists c are e within =
    event_attained laws selects net few card Runs named fit none are c.table c.worked e (lists e) (c.events e within)

-- What the states' lists, formed in working order, are over the table that they end in. Assumes nothing.
use Rattle.std.proofs.Common.{◌≡◌, ℕ, zero, suc, ◌+◌, ◌<◌, ◌≤◌, eqb, List, [], ◌∷◌, ◌++◌, length, get_or, take, sym, refl, ap, ◌∙◌, subst, inl, ⊎_elim, append_assoc, arith}
use Rattle.std.specs.List.{ContainsAt as Has, flat_map, AllByRecursion}
use Rattle.std.proofs.ByRecursion.{has_append_left, has_push_cases}
use Rattle.std.proofs.lemmas.List.{length-append, length_push, take_at, get_or_at, get_or_push, get_or_append_left}
use Rattle.std.proofs.lemmas.Bool.{cond-true, cond-false, eq-eqb, ne_eqb, cases_eq}
use Rattle.costs.specs.Amounts.{Amounts}
use Rattle.costs.specs.Entries.{entry_ops}
use Rattle.costs.specs.Lists.{Among, Sized, sums, Sound}
use Rattle.costs.specs.declared.entry.Entry.{Entry}
use Rattle.costs.proofs.Interface.{length_sums, some_among, among_joined, one_among, all_among}
use Rattle.order.specs.Order.{Next, Order, Complete, Ready}
use Rattle.sheets.specs.Sheets.{Sheet}
use Rattle.costs.specs.Forming.{Formation, list, Reduces}
use Rattle.charts.specs.Forming.{Outcome, made}
use Rattle.charts.specs.Charts.{state_cost, is_free, frees, State, Leads}
use Rattle.charts.specs.Cards.{put, no_lists, StateList, Events, States}
use Rattle.charts.proofs.Dests.{few_dests, long_joined, joined_same}

pub put_here : {X : Type 0} (T : ℕ → List X) (s : ℕ) (xs : List X) → put T s xs s ≡ xs
put_here T s xs = cond-true (eqb s s) xs (T s) (eq-eqb s s refl)

pub put_other : {X : Type 0} (T : ℕ → List X) (s : ℕ) (xs : List X) (t : ℕ) → (t ≡ s → ⊥) → put T s xs t ≡ T t
put_other T s xs t apart = cond-false (eqb t s) xs (T t) (ne_eqb t s apart)

-- the rest of an order, after those that are done
abbrev Ordered : (ℕ → Type 0) → (ℕ → ℕ → Type 0) → List ℕ → List ℕ → Type 0
Ordered Node leads done [] = Unit {0}
Ordered Node leads done (s ∷ ss) = Next Node leads (Has done) s × Ordered Node leads (done ++ s ∷ []) ss

ordered : {Node : ℕ → Type 0} {leads : ℕ → ℕ → Type 0} (ws : List ℕ) → Order Node leads ws → (done rest : List ℕ) → ws ≡ done ++ rest → Ordered Node leads done rest
ordered ws order done [] is = tt
ordered {Node} {leads} ws order done (s ∷ ss) is =
    let within : length done < length ws = omega (arith, ap length is, length-append done (s ∷ ss)) in
    let k = length done in
    let front : take k ws ≡ done = ap (take k) is ∙ take_at done (s ∷ ss) k refl in
    let at : get_or ws k 0 ≡ s = ap (λ l. get_or l k 0) is ∙ get_or_at done s ss 0 k refl in (
      subst (λ l. Next Node leads (Has l) s) front (subst (Next Node leads (Has (take k ws))) at (order k within)),
      ordered ws order (done ++ s ∷ []) ss (is ∙ sym (append_assoc done (s ∷ []) ss)),
    )

module _ {M : Type 0} (ops : Amounts M) (meant : List ℕ → M) (gives : List (Entry M) → List (Entry M) → Type 0) (sheet : Sheet) where
  -- the list of state s over the table, of 1 to 16 entries
  pub record Formed (T : ℕ → List (Entry M)) (s : ℕ) : Type 0 where
    pub formed : StateList ops gives T (state_cost ops meant sheet s) (frees sheet s) (list (T s))
    pub sized : Sized (T s)

  -- the same over a table that agrees where the state leads to
  pub list_same : (T V : ℕ → List (Entry M)) (cost : Entry M) (ds : List ℕ) (o : Formation (Entry M)) → ((d : ℕ) → Among d ds → T d ≡ V d) → StateList ops gives T cost ds o → StateList ops gives V cost ds o
  list_same T V cost [] o same h = h
  list_same T V cost (d ∷ ds) o same h = subst (λ l. Reduces gives (sums (entry_ops ops) (cost ∷ []) l) o) (joined_same T V (d ∷ ds) same) h

  module _ (sound : Sound ops gives) (few : length sheet.transitions ≤ 64) where
    sized_list : (T : ℕ → List (Entry M)) (cost : Entry M) (ds : List ℕ) → AllByRecursion (λ d. Sized (T d)) ds → length ds ≤ 64 → (xs : List (Entry M)) → StateList ops gives T cost ds (list xs) → Sized xs
    sized_list T cost [] all short xs h = (omega (arith, ap length h), omega (arith, ap length h))
    sized_list T cost (d ∷ ds) all short xs (given, most) =
        let whole = flat_map T (d ∷ ds) in
        let size = length_sums (entry_ops ops) (cost ∷ []) whole in
        let first = one_among (T d) all.0.0 in
        let some = some_among first.0 whole (among_joined T first.0 d (d ∷ ds) (inl refl) first.1) in
        let means = sound (sums (entry_ops ops) (cost ∷ []) whole) xs (omega (arith, size, some)) (omega (arith, size, long_joined T (d ∷ ds) all)) given in
        (means.some, most)

    -- every state so far is formed, and leads to states so far
    abbrev Done : List ℕ → (ℕ → List (Entry M)) → Type 0
    Done done T = (t : ℕ) → Has done t → Formed T t × Ready (Leads sheet) (Has done) t

    done_more : (done : List ℕ) (T : ℕ → List (Entry M)) (s : ℕ) (xs : List (Entry M)) → Done done T → Next (State sheet) (Leads sheet) (Has done) s
        → StateList ops gives T (state_cost ops meant sheet s) (frees sheet s) (list xs) → Done (done ++ s ∷ []) (put T s xs)
    done_more done T s xs was next h t has =
        ⊎_elim
        (λ old.
        let same = kept t old in
        let before = was t old in (
          record {
            formed = subst (λ l. StateList ops gives (put T s xs) (state_cost ops meant sheet t) (frees sheet t) (list l)) (sym same) (list_same T (put T s xs) (state_cost ops meant sheet t) (frees sheet t) (list (T t)) (λ d m. sym (kept d (before.1 d m))) before.0.formed);
            sized = subst Sized (sym same) before.0.sized;
          },
          λ d m. has_append_left done (s ∷ []) d (before.1 d m),
        ))
        (λ new.
        let is = put_here T s xs in
        let at-s : Formed (put T s xs) s = record {
          formed = subst (λ l. StateList ops gives (put T s xs) (state_cost ops meant sheet s) (frees sheet s) (list l)) (sym is) (list_same T (put T s xs) (state_cost ops meant sheet s) (frees sheet s) (list xs) (λ d m. sym (kept d (next.ready d m))) h);
          sized = subst Sized (sym is) (sized_list T (state_cost ops meant sheet s) (frees sheet s) (all_among (λ d. Sized (T d)) (frees sheet s) (λ d m. (was d (next.ready d m)).0.sized)) (omega (arith, few_dests (is_free s) sheet.transitions)) xs h);
        } in
        subst (λ u. Formed (put T s xs) u × Ready (Leads sheet) (Has (done ++ s ∷ [])) u) new
        (at-s, λ d m. has_append_left done (s ∷ []) d (next.ready d m)))
        (has_push_cases done s t has)
      where
        kept : (d : ℕ) → Has done d → put T s xs d ≡ T d
        kept d h' = put_other T s xs d (λ e. next.unworked (subst (Has done) e h'))

    states_formed : (Rest : (ℕ → List (Entry M)) → Outcome (Entry M) → Type 0) (rest done : List ℕ) (T : ℕ → List (Entry M)) (ls : List (List (Entry M))) → Ordered (State sheet) (Leads sheet) done rest → Done done T
        → States ops meant gives sheet rest T Rest (made ls) → (V : ℕ → List (Entry M)) × (((t : ℕ) → Has (done ++ rest) t → Formed V t) × Rest V (made ls))
    states_formed Rest [] done T ls order was h = (T, (λ t has. (was t (subst (λ l. Has l t) (append_none done) has)).0, h))
      where
        append_none : (xs : List ℕ) → xs ++ [] ≡ xs
        append_none [] = refl
        append_none (x ∷ xs) = ap (λ l. x ∷ l) (append_none xs)
    states_formed Rest (s ∷ ss) done T ls (next, order) was (xs, (h, more)) =
        let r = states_formed Rest ss (done ++ s ∷ []) (put T s xs) ls order (done_more done T s xs was next h) more in
        (r.0, (λ t has. r.1.0 t (subst (λ l. Has l t) (sym (append_assoc done (s ∷ []) ss)) has), r.1.1))

    -- the table that the states end in, over which each list is formed
    pub table_of : (Rest : (ℕ → List (Entry M)) → Outcome (Entry M) → Type 0) (ws : List ℕ) (ls : List (List (Entry M))) → Complete (State sheet) (Leads sheet) ws → States ops meant gives sheet ws no_lists Rest (made ls)
        → (V : ℕ → List (Entry M)) × (((s : ℕ) → State sheet s → Formed V s) × Rest V (made ls))
    table_of Rest ws ls complete h =
        let r = states_formed Rest ws [] no_lists ls (ordered ws complete.order [] ws refl) (λ t has. absurd (omega (arith, has.1))) h in
        (r.0, (λ s state. r.1.0 s (complete.all s state), r.1.1))

-- the lists of the events, each at its place
pub record Listed {X : Type 0} (P : ℕ → Formation X → Type 0) (e n : ℕ) (done ls : List (List X)) : Type 0 where
  pub all : length ls ≡ e + n
  pub before : (j : ℕ) → j < e → get_or ls j [] ≡ get_or done j []
  pub after : (j : ℕ) → e ≤ j → j < e + n → P j (list (get_or ls j []))

pub events_listed : {X : Type 0} (P : ℕ → Formation X → Type 0) (n e : ℕ) (done ls : List (List X)) → length done ≡ e → Events P n e done (made ls) → Listed P e n done ls
events_listed P zero e done ls size h =
    let is : ls ≡ done = cc in
    record { all = omega (arith, ap length is); before = λ j below. ap (λ l. get_or l j []) is; after = λ j low high. absurd (omega arith) }
events_listed P (suc n) e done ls size (xs, (h, more)) =
    let longer : length (done ++ xs ∷ []) ≡ e + 1 = omega (arith, length_push done xs) in
    let r = events_listed P n (e + 1) (done ++ xs ∷ []) ls longer more in
    let here : get_or ls e [] ≡ xs = r.before e (omega arith) ∙ get_or_push done xs [] e size in
    record {
      all = omega (arith, r.all);
      before = λ j below. r.before j (omega arith) ∙ get_or_append_left done (xs ∷ []) [] j (omega arith);
      after = λ j low high. ⊎_elim
          (λ same. subst (λ k. P k (list (get_or ls k []))) (sym same) (subst (λ l. P e (list l)) (sym here) h))
          (λ apart. r.after j (omega (arith, apart)) (omega arith))
          (cases_eq j e);
    }

-- Where the reducer's relation is a function's, a card or a refusal for length is what the plain function says. Assumes nothing.
use Rattle.std.proofs.Common.{◌≡◌, ℕ, zero, suc, ◌+◌, ◌*◌, ◌/◌, ◌%◌, ◌<◌, ◌≤◌, eqb, List, [], ◌∷◌, ◌++◌, length, get_or, take, drop, sym, refl, ap, ◌∙◌, subst, ⊎_elim, arith}
use Rattle.std.specs.List.{ContainsAt as Has}
use Rattle.std.proofs.ByRecursion.{All-weaker, has_push_cases, has_append_right}
use Rattle.std.proofs.lemmas.List.{append-nil, append_assoc, take-append-drop, drop_more, get_or_at, take_at, take_all, length-append}
use Rattle.std.proofs.lemmas.Bool.{cond-true, cond-false, eq-eqb, ne_eqb, cases_eq, cases_lt}
use Rattle.costs.specs.Amounts.{Amounts}
use Rattle.costs.specs.Entries.{entry_ops}
use Rattle.costs.specs.Lists.{Computes}
use Rattle.costs.specs.declared.entry.Entry.{Entry}
use Rattle.order.specs.Order.{Next, Order}
use Rattle.order.proofs.Induction.{next_one, same_front, has_of_take}
use Rattle.sheets.specs.declared.words.End.{End}
use Rattle.sheets.specs.declared.words.End.TheVariants.{Outside, Inside}
use Rattle.networks.specs.Forming.{Formation, list, long}
use Rattle.networks.specs.Networks.{Network, targets, Node, Place, Target, Named, Leads, WorkedIn}
use Rattle.networks.specs.Cards.{EventList, PlaceList, Formed, Worked, TooLongAt, Card, TooLongEvent}
use Rattle.networks.specs.Evaluation.{Outcome, made, stops, no_lists, put, after, events_by, place_list, event_list, places_by, network_card}
use Rattle.networks.specs.Promises.{lists_from, Evaluates}
use Rattle.networks.proofs.Places.{source_targets, place_node, of_place}
use Rattle.networks.proofs.Forming.{reach}
use Rattle.networks.proofs.Determined.{Agree, follow_determined, entries_determined}

module _ {X : Type 0} (P : ℕ → Formation X) (lists : ℕ → List X) where
  -- all events have lists
  events_made : (n e : ℕ) (done : List (List X)) → ((d : ℕ) → d < e + n → P d ≡ list (lists d)) → events_by P n e done ≡ made (done ++ lists_from lists n e)
  events_made zero e done all = ap made (sym (append-nil done))
  events_made (suc n) e done all =
      ap (λ o. after o (256 + e) (λ xs. events_by P n (e + 1) (done ++ xs ∷ []))) (all e (omega arith))
      ∙ events_made n (e + 1) (done ++ lists e ∷ []) (λ d h. all d (omega arith))
      ∙ ap made (append_assoc done (lists e ∷ []) (lists_from lists n (e + 1)))

  -- the first that has none
  events_stop : (n e k : ℕ) (done : List (List X)) → e ≤ k → k < e + n → ((d : ℕ) → d < k → P d ≡ list (lists d)) → P k ≡ long → events_by P n e done ≡ stops (256 + k)
  events_stop zero e k done low high all stop = absurd (omega arith)
  events_stop (suc n) e k done low high all stop =
      ⊎_elim
      (λ lt.
      ap (λ o. after o (256 + e) (λ xs. events_by P n (e + 1) (done ++ xs ∷ []))) (all e lt)
      ∙ events_stop n (e + 1) k (done ++ lists e ∷ []) (omega (arith, lt)) (omega arith) all stop)
      (λ ge.
      let here : e ≡ k = omega (arith, ge) in
      ap (λ o. after o (256 + e) (λ xs. events_by P n (e + 1) (done ++ xs ∷ []))) (ap P here ∙ stop) ∙ ap (λ j. stops (256 + j)) here)
      (cases_lt e k)

module _ {M : Type 0} (ops : Amounts M) (gives : List (Entry M) → List (Entry M) → Type 0) (f : List (Entry M) → List (Entry M)) (computes : Computes gives f)
    (net : Network) (few : net.outputs ≤ 8) (card : ℕ → ℕ → List (Entry M)) (named : Named net) (narrow : (i : ℕ) → i < net.instances → (net.faces i).inputs ≤ 8) (V : ℕ → ℕ → List (Entry M)) where
  -- the table has the lists of these places
  abbrev Has_lists : (ℕ → ℕ → List (Entry M)) → List ℕ → Type 0
  Has_lists T ws = (i g : ℕ) → Place net i g → Has ws (8 * i + g) → T i g ≡ V i g

  -- a place whose ways all lead to such places
  place_determined : (T : ℕ → ℕ → List (Entry M)) (ws : List ℕ) (n : ℕ) → Has_lists T ws → ((m : ℕ) → Leads net card n m → Has ws m)
      → (o : Formation (Entry M)) → PlaceList ops gives V net.connections (n / 8) (card (n / 8) (n % 8)) o → place_list ops f T net.connections (n / 8) (card (n / 8) (n % 8)) ≡ o
  place_determined T ws n have ready o h =
      entries_determined ops gives f computes T V net.connections (n / 8) (card (n / 8) (n % 8))
      (reach net few card named narrow n (Agree ops gives f computes T V) (λ p low. refl) (λ j g place leads. have j g place (ready (8 * j + g) leads))) [] o h

  -- one place more
  has_more : (T : ℕ → ℕ → List (Entry M)) (ws : List ℕ) (n : ℕ) → (Has ws n → ⊥) → Has_lists T ws → Has_lists (put T n (V (n / 8) (n % 8))) (ws ++ n ∷ [])
  has_more T ws n new have i g place h =
      ⊎_elim
      (λ is. cond-true (eqb (8 * i + g) n) (V (n / 8) (n % 8)) (T i g) (eq-eqb (8 * i + g) n is) ∙ subst (λ m. V (m / 8) (m % 8) ≡ V i g) is (of_place net narrow i g place (λ a b. V a b ≡ V i g) refl))
      (λ apart.
      cond-false (eqb (8 * i + g) n) (V (n / 8) (n % 8)) (T i g) (ne_eqb (8 * i + g) n apart)
      ∙ have i g place (⊎_elim (λ old. old) (λ is. absurd (apart (sym is))) (has_push_cases ws n (8 * i + g) h)))
      (cases_eq (8 * i + g) n)

  -- the places us, that follow those done, are formed in the table V: then the function passes them
  passed : (done us vs : List ℕ) (T : ℕ → ℕ → List (Entry M)) (rest : (ℕ → ℕ → List (Entry M)) → Outcome (Entry M)) → Order (Node net) (Leads net card) (done ++ us)
      → ((m : ℕ) → Has (done ++ us) m → Formed ops gives net card V (m / 8) (m % 8)) → Has_lists T done
      → (T' : ℕ → ℕ → List (Entry M)) × (Has_lists T' (done ++ us) × (places_by ops f net card (us ++ vs) T rest ≡ places_by ops f net card vs T' rest))
  passed done [] vs T rest order formed have = (T, (subst (Has_lists T) (sym (append-nil done)) have, refl))
  passed done (n ∷ us) vs T rest order formed have =
      let k = length done in
      let is : get_or (done ++ n ∷ us) k 0 ≡ n = get_or_at done n us 0 k refl in
      let next : Next (Node net) (Leads net card) (Has done) n =
      subst (λ ws. Next (Node net) (Leads net card) (Has ws) n) (take_at done (n ∷ us) k refl) (subst (Next (Node net) (Leads net card) (Has (take k (done ++ n ∷ us)))) is (order k (omega (arith, length-append done (n ∷ us))))) in
      let here : place_list ops f T net.connections (n / 8) (card (n / 8) (n % 8)) ≡ list (V (n / 8) (n % 8)) =
      place_determined T done n have next.ready (list (V (n / 8) (n % 8))) (formed n (has_append_right done (n ∷ us) n (here_first n us))).formed in
      let shift : (done ++ n ∷ []) ++ us ≡ done ++ n ∷ us = append_assoc done (n ∷ []) us in
      let on = passed (done ++ n ∷ []) us vs (put T n (V (n / 8) (n % 8))) rest (subst (Order (Node net) (Leads net card)) (sym shift) order) (λ m h. formed m (subst (λ ws. Has ws m) shift h)) (has_more T done n next.unworked have) in
      (on.0, (subst (Has_lists on.0) shift on.1.0, ap (λ o. after o n (λ xs. places_by ops f net card (us ++ vs) (put T n xs) rest)) here ∙ on.1.1))
    where
      here_first : (n : ℕ) (us : List ℕ) → Has (n ∷ us) n
      here_first n us = (0, omega arith, λ d. refl)

  -- an event over all places
  event_determined : (T : ℕ → ℕ → List (Entry M)) (ws : List ℕ) → WorkedIn net card ws → Has_lists T ws → (e : ℕ) (o : Formation (Entry M)) → EventList ops gives V net.connections e o → event_list ops f T net.connections e ≡ o
  event_determined T ws complete have e o h =
      follow_determined ops gives f computes T V (targets net.connections (Outside e)) (All-weaker _ _ one (targets net.connections (Outside e)) (source_targets net named (Outside e))) ((entry_ops ops).zero ∷ []) o h
    where
      one : (t : End) → Target net t → Agree ops gives f computes T V t
      one (Outside p) target = refl
      one (Inside j g) place = have j g place (complete.all (8 * j + g) (place_node net narrow j g place))

  -- all places passed
  all_passed : Worked ops gives net card V → (ws : List ℕ) → WorkedIn net card ws → (T' : ℕ → ℕ → List (Entry M)) × (Has_lists T' ws × (network_card ops f net card ws ≡ events_by (event_list ops f T' net.connections) net.inputs 0 []))
  all_passed worked ws complete =
      let rest : (ℕ → ℕ → List (Entry M)) → Outcome (Entry M) = λ T. events_by (event_list ops f T net.connections) net.inputs 0 [] in
      let p = passed [] ws [] no_lists rest complete.order (λ m h. worked.places (m / 8) (m % 8) (worked_node ws complete m h)) (λ i g place h. absurd (none h)) in
      (p.0, (p.1.0, ap (λ us. places_by ops f net card us no_lists rest) (sym (append-nil ws)) ∙ p.1.1))
    where
      worked_node : (ws : List ℕ) → WorkedIn net card ws → (n : ℕ) → Has ws n → Node net n
      worked_node ws complete n h = subst (Node net) (h.2 0) (complete.order h.0 h.1).node

      none : {n : ℕ} → Has [] n → ⊥
      none h = omega (arith, h.1)

module _ {M : Type 0} (ops : Amounts M) (gives : List (Entry M) → List (Entry M) → Type 0) (net : Network) (few : net.outputs ≤ 8) (card : ℕ → ℕ → List (Entry M)) (named : Named net)
    (narrow : (i : ℕ) → i < net.instances → (net.faces i).inputs ≤ 8) where
  pub card_evaluates : (lists : ℕ → List (Entry M)) → Card ops gives net card lists → Evaluates ops gives net card (made (lists_from lists net.inputs 0))
  card_evaluates lists c f computes ws complete =
      let p = all_passed ops gives f computes net few card named narrow c.table c.worked ws complete in
      sym (p.1.1 ∙ events_made (event_list ops f p.0 net.connections) lists net.inputs 0 []
      (λ d h. event_determined ops gives f computes net few card named narrow c.table p.0 ws complete p.1.0 d (list (lists d)) (c.events d (omega arith))))

  pub event_evaluates : (e : ℕ) → TooLongEvent ops gives net card e → Evaluates ops gives net card (stops (256 + e))
  event_evaluates e t f computes ws complete =
      let p = all_passed ops gives f computes net few card named narrow t.table t.worked ws complete in
      let P = event_list ops f p.0 net.connections in
      let is : (d : ℕ) (o : Formation (Entry M)) → EventList ops gives t.table net.connections d o → P d ≡ o = event_determined ops gives f computes net few card named narrow t.table p.0 ws complete p.1.0 in
      sym (p.1.1 ∙ events_stop P (λ d. of_formation (P d)) net.inputs 0 e [] (omega arith) (omega (arith, t.event))
      (λ d h. let b = t.before d h in is d (list b.0) b.1 ∙ ap (λ o. list (of_formation o)) (sym (is d (list b.0) b.1))) (is e long t.stopped))
    where
      of_formation : Formation (Entry M) → List (Entry M)
      of_formation (list xs) = xs
      of_formation long = []

  -- the order goes on with the place that stops
  goes_on : (n : ℕ) (us ws : List ℕ) → Order (Node net) (Leads net card) us → Next (Node net) (Leads net card) (Has us) n → WorkedIn net card ws → (vs : List ℕ) × (ws ≡ us ++ n ∷ vs)
  goes_on n us ws order next complete =
      ⊎_elim
      (λ lt.
      let k = length us in
      let front : us ≡ take k ws = sym (take_all k us (omega arith)) ∙ same_front us ws order complete.order k (omega arith) (omega (arith, lt)) in
      let is : n ≡ get_or ws k 0 = next_one n (get_or ws k 0) next (subst (λ l. Next (Node net) (Leads net card) (Has l) (get_or ws k 0)) (sym front) (complete.order k lt)) in
      (drop (k + 1) ws, sym (take-append-drop k ws) ∙ ap (λ l. take k ws ++ l) (drop_more ws k 0 lt ∙ ap (λ m. m ∷ drop (k + 1) ws) (sym is)) ∙ ap (λ l. l ++ n ∷ drop (k + 1) ws) (sym front)))
      (λ ge.
      let k = length ws in
      let front : ws ≡ take k us = sym (take_all k ws (omega arith)) ∙ same_front ws us complete.order order k (omega arith) (omega (arith, ge)) in
      absurd (next.unworked (has_of_take k us n (subst (λ l. Has l n) front (complete.all n next.node)))))
      (cases_lt (length us) (length ws))

  pub place_evaluates : (n : ℕ) → TooLongAt ops gives net card n → Evaluates ops gives net card (stops n)
  place_evaluates n t f computes ws complete =
      let rest : (ℕ → ℕ → List (Entry M)) → Outcome (Entry M) = λ T. events_by (event_list ops f T net.connections) net.inputs 0 [] in
      let g = goes_on n t.ws ws t.order t.next complete in
      let p = passed ops gives f computes net few card named narrow t.table [] t.ws (n ∷ g.0) no_lists rest t.order t.before (λ i h place has. absurd (none has)) in
      let stop = place_determined ops gives f computes net few card named narrow t.table p.0 t.ws n p.1.0 t.next.ready long t.stopped in
      sym (ap (λ us. places_by ops f net card us no_lists rest) g.1 ∙ p.1.1 ∙ ap (λ o. after o n (λ xs. places_by ops f net card g.0 (put p.0 n xs) rest)) stop)
    where
      none : {n : ℕ} → Has [] n → ⊥
      none h = omega (arith, h.1)

-- Where the reducer computes a function, a call has one answer and one book after it. Assumes nothing.
use Rattle.std.proofs.Common.{◌≡◌, ℕ, ◌<◌, ◌≤◌, List, [], length, sym, ap, ◌∙◌, subst, inl, inr, ⊎_elim, arith}
use Rattle.std.proofs.lemmas.Bool.{cases_lt, cases_order}
use Rattle.costs.specs.Lists.{Computes}
use Rattle.costs.specs.declared.entry.Entry.{Entry}
use Rattle.networks.specs.Evaluation.{Outcome, made, stops}
use Rattle.networks.specs.Networks.{network_of, Named as NamedNetwork, FullAt}
use Rattle.networks.specs.Promises.{lists_from}
use Rattle.networks.specs.Refusals.{Unworked, Carded, place}
use Rattle.networks.specs.declared.beneath.Face.{Face}
use Rattle.networks.specs.declared.refusal.Refusal.{Refusal}
use Rattle.sheets.specs.Form.{Form}
use Rattle.sheets.specs.Refusals.{framing_of, check_of}
use Rattle.sheets.specs.Sheets.{Sheet, sheet_of}
use Rattle.sheets.specs.declared.words.Kind.{Kind}
use Rattle.sheets.specs.declared.words.Kind.TheVariants.{Basic, Service, Composite}
use Rattle.sheets.proofs.Forms.{form_of}
use Rattle.library.specs.Books.{Rules, Book, size, at, inputs_of, used, instance_of, Stale}
use Rattle.library.specs.Checks.{Sizes, Lent, Blocks, blocks_of, Verdict, turned, fine, Never, Right, Missing, Behind, faces_beneath, cards_beneath, NamedBy, Named, StopsBy, FormedBy, Working}
use Rattle.library.specs.Memory.{BookFacts}
use Rattle.library.specs.Refusals.{Told}
use Rattle.library.specs.Steps.{EnterLacks, PreviewLacks, Placing, Answering, Entering, Previewing, Retiming, Reworking, Showing}
use Rattle.library.proofs.Books.{among_at}
use Rattle.library.proofs.Deciding.{then_one, first_at_one, first_apart, plainly_one, bad_one, bad_apart, unworkable_not, unworkable_one, same_told}
use Rattle.library.proofs.Determined.{same_cards, chart_stops_one, chart_stops_apart, chart_cards_one}
use Rattle.library.proofs.Exactness.{network_exact, card_exact}
use Rattle.library.proofs.Wiring.{Alike, names_one, names_apart}

abbrev lists_in : {X : Type 0} → Outcome X → List (List X)
lists_in (made ls) = ls
lists_in (stops p) = []

abbrev place_in : {X : Type 0} → Outcome X → ℕ
place_in (made ls) = 0
place_in (stops p) = p

abbrev IsMade : {X : Type 0} → Outcome X → Type 0
IsMade (made ls) = Unit {0}
IsMade (stops p) = ⊥

module _ {M : Type 0} (rules : Rules M) (f : List (Entry M) → List (Entry M)) (computes : Computes rules.gives f) where
  module _ (faces : ℕ → Face) (cards : ℕ → ℕ → List (Entry M)) (s : Sheet) {w : ℕ} (form : Form w s) (narrow : (i : ℕ) → i < length s.instances → (faces i).inputs ≤ 8) where
    full_one : (j k : ℕ) → FullAt (network_of s faces) cards j → FullAt (network_of s faces) cards k → j ≡ k
    full_one j k g h =
        ⊎_elim (λ e. e) (λ apart. ⊎_elim (λ lt. absurd (h.lowest j lt g.node g.full)) (λ gt. absurd (g.lowest k gt h.node h.full)) apart) (cases_order j k)

    -- two refusals of the working of a composite agree
    stops_alike : NamedNetwork (network_of s faces) → (d e : Refusal) → Unworked rules.ops rules.gives (network_of s faces) cards d → Unworked rules.ops rules.gives (network_of s faces) cards e → Alike (network_of s faces) d e
    stops_alike named d e (inl g) (inl h) = record { numbers = g.number_is ∙ sym h.number_is; levels = g.level_is ∙ sym h.level_is; places = unworkable_one (place d) (place e) g.place_is.unworkable h.place_is.unworkable }
    stops_alike named d e (inl g) (inr h) = absurd (unworkable_not (place d) h.0.0 g.place_is.unworkable h.0.1)
    stops_alike named d e (inr g) (inl h) = absurd (unworkable_not (place e) g.0.0 h.place_is.unworkable g.0.1)
    stops_alike named d e (inr (able, inl g)) (inr (also, inl h)) = record { numbers = g.number_is ∙ sym h.number_is; levels = g.level_is ∙ sym h.level_is; places = full_one (place d) (place e) g.place_is h.place_is }
    stops_alike named d e (inr (able, inl g)) (inr (also, inr (none, h))) = absurd (none (place d) g.place_is.node g.place_is.full)
    stops_alike named d e (inr (able, inr (none, g))) (inr (also, inl h)) = absurd (none (place e) h.place_is.node h.place_is.full)
    stops_alike named d e (inr (able, inr (none, g))) (inr (also, inr (too, h))) =
        let p = network_exact rules faces cards s form narrow named d g.number_is (inr (able, inr (none, g))) f computes able.0 able.1 in
        let q = network_exact rules faces cards s form narrow named e h.number_is (inr (also, inr (too, h))) f computes able.0 able.1 in
        record { numbers = g.number_is ∙ sym h.number_is; levels = g.level_is ∙ sym h.level_is; places = ap place_in (p ∙ sym q) }

    stops_not : (named : NamedBy faces s Composite) → (e : Refusal) (card : ℕ → List (Entry M)) → Unworked rules.ops rules.gives (network_of s faces) cards e → Carded rules.ops rules.gives (network_of s faces) cards card → ⊥
    stops_not named e card (inl g) h = unworkable_not (place e) h.formed.worked.ws g.place_is.unworkable h.formed.worked.complete
    stops_not named e card (inr (able, inl g)) h = h.none_full (place e) g.place_is.node g.place_is.full
    stops_not named e card (inr (able, inr (none, g))) h =
        let p = network_exact rules faces cards s form narrow named.0 e g.number_is (inr (able, inr (none, g))) f computes able.0 able.1 in
        let q = card_exact rules faces cards s form narrow Composite named card h f computes able.0 able.1 in
        subst IsMade (q ∙ sym p) tt

    -- by the kind of block
    stops_one : (kind : Kind) → NamedBy faces s kind → (t u : Told) → StopsBy rules faces cards s kind t → StopsBy rules faces cards s kind u → t ≡ u
    stops_one Basic named t u g h = chart_stops_one rules f computes s Basic t u g h
    stops_one Service named t u g h = chart_stops_one rules f computes s Service t u g h
    stops_one Composite named t u g h =
        let a = stops_alike named.0 g.refusal h.refusal g.is h.is in
        same_told t u (ap (λ (x : Told). x.number) g.as_told ∙ a.numbers ∙ sym (ap (λ (x : Told). x.number) h.as_told))
        (ap (λ (x : Told). x.level) g.as_told ∙ a.levels ∙ sym (ap (λ (x : Told). x.level) h.as_told))
        (ap (λ (x : Told). x.place) g.as_told ∙ a.places ∙ sym (ap (λ (x : Told). x.place) h.as_told))

    stops_apart : (kind : Kind) → NamedBy faces s kind → (t : Told) (card : ℕ → List (Entry M)) → StopsBy rules faces cards s kind t → FormedBy rules faces cards s kind card → ⊥
    stops_apart Basic named t card g h = chart_stops_apart rules f computes s Basic t _ g h
    stops_apart Service named t card g h = chart_stops_apart rules f computes s Service t _ g h
    stops_apart Composite named t card g h = stops_not named g.refusal card g.is h

    lists_one : (kind : Kind) → NamedBy faces s kind → (c d : ℕ → List (Entry M)) → FormedBy rules faces cards s kind c → FormedBy rules faces cards s kind d → lists_from c s.face.inputs 0 ≡ lists_from d s.face.inputs 0
    lists_one Basic named c d g h = chart_cards_one rules f computes s Basic _ _ g h
    lists_one Service named c d g h = chart_cards_one rules f computes s Service _ _ g h
    lists_one Composite named c d g h =
        let ws = g.formed.worked.ws in
        let complete = g.formed.worked.complete in
        ap lists_in (card_exact rules faces cards s form narrow Composite named c g f computes ws complete ∙ sym (card_exact rules faces cards s form narrow Composite named d h f computes ws complete))

  -- the working of a sheet whose numbers all name something comes to one verdict
  pub working_one : (v : Blocks M) (s : Sheet) {w : ℕ} → Form w s → ((i : ℕ) → i < length s.instances → (faces_beneath v s i).inputs ≤ 8) → Named v s
      → (p q : Verdict (ℕ → List (Entry M))) → Working rules v s p → Working rules v s q → p ≡ q
  working_one v s form narrow named (turned t) (turned u) g h = ap turned (stops_one (faces_beneath v s) (cards_beneath v s) s form narrow s.face.kind named t u g h)
  working_one v s form narrow named (turned t) (fine d) g h = absurd (stops_apart (faces_beneath v s) (cards_beneath v s) s form narrow s.face.kind named t d g h.formed)
  working_one v s form narrow named (fine c) (turned u) g h = absurd (stops_apart (faces_beneath v s) (cards_beneath v s) s form narrow s.face.kind named u c h g.formed)
  working_one v s form narrow named (fine c) (fine d) g h =
      ap fine (same_cards s.face.inputs c d (lists_one (faces_beneath v s) (cards_beneath v s) s form narrow s.face.kind named c d g.formed h.formed) g.none h.none)

  module _ (b : Book M) (facts : BookFacts rules b) where
    abbrev v : Blocks M
    v = blocks_of b

    narrow_known : (s : Sheet) → Never (Missing v s) → (i : ℕ) → i < length s.instances → (faces_beneath v s i).inputs ≤ 8
    narrow_known s known i l =
        let low : instance_of s i < size b = ⊎_elim (λ h. h) (λ high. absurd (known i (record { instance = l; no_block = high }))) (cases_lt _ (size b)) in
        (facts.blocks _ low).form.few_inputs

    placing_one : (bs : List ℕ) → Right rules.wide bs → (Lacks : ℕ → Type 0) → (p q : Verdict (ℕ → List (Entry M))) → Placing rules v bs Lacks p → Placing rules v bs Lacks q → p ≡ q
    placing_one bs right Lacks =
        let s = sheet_of rules.wide bs in
        then_one (first_at_one 3 (Missing v s)) (first_apart 3 (Missing v s)) (λ known.
        then_one (first_at_one 4 (Behind v s)) (first_apart 4 (Behind v s)) (λ fresh.
        then_one (names_one (faces_beneath v s) rules.wide bs s.face.kind) (names_apart (faces_beneath v s) rules.wide bs s.face.kind) (λ named.
        then_one (first_at_one 7 Lacks) (first_apart 7 Lacks) (λ room. working_one v s (form_of rules.wide bs right) (narrow_known s known) named))))

    pub entering_one : (sizes : Sizes) (lent : Lent) (bs : List ℕ) (p q : Verdict (ℕ → List (Entry M))) → Entering rules b sizes lent bs p → Entering rules b sizes lent bs q → p ≡ q
    entering_one sizes lent bs =
        then_one (bad_one (framing_of bs)) (bad_apart (framing_of bs)) (λ framed.
        then_one (bad_one (check_of rules.wide bs)) (bad_apart (check_of rules.wide bs)) (λ right. placing_one bs right (EnterLacks sizes lent (used b) (size b) (length bs))))

    pub previewing_one : (lent : Lent) (w : ℕ) (bs : List ℕ) (p q : Verdict (ℕ → List (Entry M))) → Previewing rules b lent w bs p → Previewing rules b lent w bs q → p ≡ q
    previewing_one lent w bs =
        then_one (bad_one (framing_of bs)) (bad_apart (framing_of bs)) (λ framed.
        then_one (bad_one (check_of w bs)) (bad_apart (check_of w bs)) (λ right.
        then_one (plainly_one 2 w (w ≡ rules.wide → ⊥)) (λ t h is. h.holds is) (λ is. placing_one bs (subst (λ k. Right k bs) is right) (PreviewLacks lent))))

    pub reworking_one : (lent : Lent) (n : ℕ) → n < size b → (p q : Verdict (ℕ → List (Entry M))) → Reworking rules b lent n p → Reworking rules b lent n q → p ≡ q
    reworking_one lent n lt =
        let s = (at b n).sheet in
        let known : Never (Missing v s) = λ i h. omega (arith, h.no_block, (facts.blocks n lt).earlier _ (among_at s.instances i 255 h.instance), lt) in
        then_one (first_at_one 4 (Behind v s)) (first_apart 4 (Behind v s)) (λ fresh.
        then_one (plainly_one 7 4 (lent.rows < 3072)) (λ t h room. omega (arith, h.holds, room)) (λ room. working_one v s (facts.blocks n lt).form (narrow_known s known) (facts.blocks n lt).named))

    answering_one : {X : Type 0} (x : X) (p q : Verdict X) → Answering x p → Answering x q → p ≡ q
    answering_one x (turned t) q g h = absurd g
    answering_one x (fine y) (turned u) g h = absurd h
    answering_one x (fine y) (fine z) g h = ap fine (g ∙ sym h)

    pub retiming_one : (n k : ℕ) (new : List ℕ) (p q : Verdict (Unit {0})) → Retiming rules b n k new p → Retiming rules b n k new q → p ≡ q
    retiming_one n k new =
        then_one (plainly_one 2 (length new) (length new ≡ rules.wide → ⊥)) (λ t h is. h.holds is) (λ is.
        then_one (plainly_one 3 n (size b ≤ n)) (λ t h lt. omega (arith, h.holds, lt)) (λ lt.
        then_one (plainly_one 5 k (length (at b n).sheet.amounts ≤ k)) (λ t h l. omega (arith, h.holds, l)) (λ l. answering_one tt)))

    pub showing_one : (lent : Lent) (n e : ℕ) (p q : Verdict (List (Entry M))) → Showing rules b lent n e p → Showing rules b lent n e q → p ≡ q
    showing_one lent n e =
        then_one (plainly_one 3 n (size b ≤ n)) (λ t h lt. omega (arith, h.holds, lt)) (λ lt.
        then_one (plainly_one 4 n (Stale b n)) (λ t h cur. cur h.holds) (λ cur.
        then_one (plainly_one 5 e (inputs_of b n ≤ e)) (λ t h l. omega (arith, h.holds, l)) (λ l.
        then_one (plainly_one 7 5 (lent.out < 16)) (λ t h room. omega (arith, h.holds, room)) (λ room. answering_one ((at b n).card e)))))

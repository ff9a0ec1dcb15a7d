-- What a retime does to the book and to the tables that stand for it. Assumes nothing.
use Rattle.std.proofs.Common.{◌≡◌, ℕ, zero, suc, ◌+◌, ◌<◌, ◌≤◌, Bool, true, ◌⊎◌, List, [], ◌∷◌, length, take, drop, Some, None, Option, sym, refl, ap, ◌∙◌, subst, inl, inr, ⊎_elim, arith}
use Rattle.std.specs.List.{AllByRecursion}
use Rattle.std.proofs.ByRecursion.{All-weaker}
use Rattle.std.proofs.lemmas.List.{length-set}
use Rattle.std.proofs.lemmas.Bool.{cases_Bool, cases_eq, cases_lt, both_ways, or_cases, or_left, or_right}
use Rattle.costs.specs.Lists.{Among, Sized}
use Rattle.costs.specs.declared.entry.Entry.{Entry}
use Rattle.charts.specs.Charts.{Within as WithinNumber, NamedAction, NamedTransition, Named as NamedChart}
use Rattle.networks.specs.declared.beneath.Face.{Face}
use Rattle.sheets.specs.Form.{Form, with_amount, AmountAt}
use Rattle.sheets.specs.Sheets.{Sheet, sheet_of}
use Rattle.sheets.specs.declared.words.Action.{Action}
use Rattle.sheets.specs.declared.words.Kind.{Kind}
use Rattle.sheets.specs.declared.words.Kind.TheVariants.{Basic, Service, Composite}
use Rattle.sheets.proofs.Forms.{form_of}
use Rattle.library.specs.Books.{Rules, Block, Book, size, at, start_of, instance_of, retimed_block, with_retime, StandsOn, Within, itself, deeper, Stale}
use Rattle.library.specs.Checks.{blocks_of, faces_beneath, cards_beneath, Framed, Right, NamedBy, Named, CardOf}
use Rattle.library.specs.Marks.{kept_names, leans, with_mark, Marked}
use Rattle.library.specs.Memory.{BlockFacts, Times, BookFacts, Shelved, Indexed, Held, Stands}
use Rattle.library.specs.Tables.{row_at, row_of, lens_of, card_rows, sheet_bytes, overwritten, Remarked, Replaced}
use Rattle.library.specs.declared.row.Row.{Row}
use Rattle.library.proofs.Books.{within_by, end_before, end_within, size_changed, at_changed, at_other, kept, start_changed, used_changed, named_as, card_as}
use Rattle.library.proofs.Marks.{leans_some, leans_by}
use Rattle.library.proofs.Parts.{part_before, part_overwritten, drop_behind, length_overwritten}
use Rattle.library.proofs.Reading.{names_are}

-- what a basic or a service sheet names does not depend on its amounts, but on how many there are
module _ (s : Sheet) (k : ℕ) (new : List ℕ) where
  within_amounts : (o : Option ℕ) → WithinNumber (length s.amounts) o → WithinNumber (length (with_amount s k new).amounts) o
  within_amounts None h = h
  within_amounts (Some j) h = omega (arith, h, length-set s.amounts k new)

  action_named : (a : Action) → NamedAction s a → NamedAction (with_amount s k new) a
  action_named a h = record { algorithm = within_amounts a.algorithm h.algorithm; output = h.output }

  chart_named : NamedChart s → NamedChart (with_amount s k new)
  chart_named h = record {
    states = All-weaker (AllByRecursion (NamedAction s)) (AllByRecursion (NamedAction (with_amount s k new))) (λ actions. All-weaker (NamedAction s) (NamedAction (with_amount s k new)) action_named actions) s.states h.states;
    transitions = All-weaker (NamedTransition s) (NamedTransition (with_amount s k new)) (λ t p. record { source = p.source; destination = p.destination; event = p.event }) s.transitions h.transitions;
    entries = h.entries;
  }

  kind_named : (faces : ℕ → Face) (kind : Kind) → NamedBy faces s kind → NamedBy faces (with_amount s k new) kind
  kind_named faces Basic h = chart_named h
  kind_named faces Service h = chart_named h
  kind_named faces Composite h = h

module _ {M : Type 0} {rules : Rules M} {b : Book M} {shelf : List ℕ} {index : List Row} {cards : List (Entry M)} (n k : ℕ) (new : List ℕ) (lt : n < size b) (wide : length new ≡ rules.wide)
    (st : Stands rules b shelf index cards) (p : ℕ) (stands : AmountAt rules.wide (sheet_bytes b shelf n) k p) where
  abbrev x : Block M
  x = retimed_block (at b n) k new b.clock

  abbrev d : Book M
  d = with_retime b n k new

  facts : BookFacts rules b
  facts = st.book

  in_book : (m : ℕ) → m < size d → m < size b
  in_book m l = omega (arith, l, size_changed b n x lt)

  instances_kept : (m : ℕ) → (at d m).sheet.instances ≡ (at b m).sheet.instances
  instances_kept = kept b n x lt (λ y. y.sheet.instances) refl

  worked_kept : (m : ℕ) → (at d m).worked ≡ (at b m).worked
  worked_kept = kept b n x lt (λ y. y.worked) refl

  on_then : (m j : ℕ) → StandsOn d m j → StandsOn b m j
  on_then m j h = subst (Among j) (instances_kept m) h

  on_now : (m j : ℕ) → StandsOn b m j → StandsOn d m j
  on_now m j h = subst (Among j) (sym (instances_kept m)) h

  -- a retime makes out of date what was, and the block and all above it
  stale_then : (q : ℕ) → Stale d q → Stale b q ⊎ Within b n q
  stale_then q s =
      let w = within_by d b on_then s.within in
      ⊎_elim (λ e. inr (subst (λ j. Within b j q) e w))
      (λ ne. inl (record { block = s.block; within = w; later = omega (arith, s.later, worked_kept q, ap (λ (y : Block M). y.retimed) (at_other b n x lt s.block ne)) }))
      (cases_eq s.block n)

  stale_above : (q : ℕ) → Within b n q → Stale d q
  stale_above q w = record { block = n; within = within_by b d on_now w; later = omega (arith, worked_kept q, facts.times.worked q, ap (λ (y : Block M). y.retimed) (at_changed b n x lt)) }

  stale_now : (q : ℕ) → Stale b q → Stale d q
  stale_now q s =
      ⊎_elim (λ e. stale_above q (subst (λ j. Within b j q) e s.within))
      (λ ne. record { block = s.block; within = within_by b d on_now s.within; later = omega (arith, s.later, worked_kept q, ap (λ (y : Block M). y.retimed) (at_other b n x lt s.block ne)) })
      (cases_eq s.block n)

  upward' : (m j : ℕ) → m < size d → StandsOn d m j → Stale d j → Stale d m
  upward' m j l on s =
      let on' = on_then m j on in
      ⊎_elim (λ y. stale_now m (facts.times.upward m j (in_book m l) on' y)) (λ w. stale_above m (deeper j on' w)) (stale_then j s)

  times' : Times d
  times' = record {
    worked = λ m. omega (arith, worked_kept m, facts.times.worked m);
    retimed = λ m. ⊎_elim (λ e. omega (arith, ap (λ j. (at d j).retimed) e, ap (λ (y : Block M). y.retimed) (at_changed b n x lt)))
        (λ ne. omega (arith, ap (λ (y : Block M). y.retimed) (at_other b n x lt m ne), facts.times.retimed m)) (cases_eq m n);
    upward = upward';
  }

  faces_kept : (s : Sheet) → faces_beneath (blocks_of d) s ≡ faces_beneath (blocks_of b) s
  faces_kept s = λ j i. kept b n x lt (λ y. record { inputs = y.sheet.face.inputs; outputs = y.sheet.face.outputs }) refl (instance_of s i) j

  cards_kept : (s : Sheet) → cards_beneath (blocks_of d) s ≡ cards_beneath (blocks_of b) s
  cards_kept s = λ j i. kept b n x lt (λ y. y.card) refl (instance_of s i) j

  other_facts : (m : ℕ) → m < size b → (m ≡ n → ⊥) → BlockFacts rules d m
  other_facts m l ne =
      let same = at_other b n x lt m ne in
      let f = facts.blocks m l in
      record {
        form = subst (λ (y : Block M). Form rules.wide y.sheet) (sym same) f.form;
        earlier = λ j on. f.earlier j (on_then m j on);
        named = subst (λ (y : Block M). Named (blocks_of d) y.sheet) (sym same) (named_as (blocks_of b) (blocks_of d) (at b m).sheet (faces_kept (at b m).sheet) f.named);
        sized = subst (λ (y : Block M). (e : ℕ) → e < y.sheet.face.inputs → Sized (y.card e)) (sym same) f.sized;
        none = subst (λ (y : Block M). (e : ℕ) → y.sheet.face.inputs ≤ e → y.card e ≡ []) (sym same) f.none;
        card = λ cur. subst (λ (y : Block M). CardOf rules (blocks_of d) y.sheet y.card) (sym same)
            (card_as (blocks_of b) (blocks_of d) (at b m).sheet (faces_kept (at b m).sheet) rules (at b m).card (cards_kept (at b m).sheet) (f.card (λ s. cur (stale_now m s))));
      }

  -- what the bytes with the new amount say
  says_new : sheet_of rules.wide (overwritten (sheet_bytes b shelf n) p new) ≡ with_amount (at b n).sheet k new
  says_new = stands.says new wide ∙ ap (λ s. with_amount s k new) (st.shelf_has.says n lt)

  own_facts : BlockFacts rules d n
  own_facts =
      let same = at_changed b n x lt in
      let f = facts.blocks n lt in
      record {
        form = subst (λ (y : Block M). Form rules.wide y.sheet) (sym same) (subst (Form rules.wide) says_new (form_of rules.wide _ (stands.right new wide)));
        earlier = λ j on. f.earlier j (on_then n j on);
        named = subst (λ (y : Block M). Named (blocks_of d) y.sheet) (sym same) (named_as (blocks_of b) (blocks_of d) x.sheet (faces_kept x.sheet) (kind_named (at b n).sheet k new (faces_beneath (blocks_of b) (at b n).sheet) (at b n).sheet.face.kind f.named));
        sized = subst (λ (y : Block M). (e : ℕ) → e < y.sheet.face.inputs → Sized (y.card e)) (sym same) f.sized;
        none = subst (λ (y : Block M). (e : ℕ) → y.sheet.face.inputs ≤ e → y.card e ≡ []) (sym same) f.none;
        card = λ cur. absurd (cur (stale_above n itself));
      }

  facts' : BookFacts rules d
  facts' = record {
    few = omega (arith, size_changed b n x lt, facts.few);
    blocks = λ m l. ⊎_elim (λ e. subst (BlockFacts rules d) (sym e) own_facts) (other_facts m (in_book m l)) (cases_eq m n);
    times = times';
  }

  held' : (zero' : Entry M) → Held zero' b cards → Held zero' d cards
  held' zero' h = record {
    room = omega (arith, size_changed b n x lt, h.room);
    rows = λ m l. h.rows m (in_book m l) ∙ ap (card_rows zero') (sym (kept b n x lt (λ y. y.card) refl m));
  }

  module _ (shelf' : List ℕ) (es : shelf' ≡ overwritten shelf (start_of b n + p) new) where
    long : length (sheet_bytes b shelf n) ≤ (at b n).bytes
    long = length_take_most (at b n).bytes (drop (start_of b n) shelf)
      where
        length_take_most : (l : ℕ) (xs : List ℕ) → length (take l xs) ≤ l
        length_take_most zero xs = omega arith
        length_take_most (suc l) [] = omega arith
        length_take_most (suc l) (y ∷ ys) = omega (arith, length_take_most l ys)

    fits : p + length new ≤ (at b n).bytes
    fits = omega (arith, stands.within, wide, long)

    ends : start_of b n + (at b n).bytes ≤ length shelf
    ends = omega (arith, end_within b n lt, st.shelf_has.room)

    start : start_of b n + p ≤ length shelf
    start = omega (arith, fits, ends)

    moved : (m : ℕ) → sheet_bytes d shelf' m ≡ sheet_bytes b shelf' m
    moved m = ap (λ j. take j (drop (start_of d m) shelf')) (kept b n x lt (λ y. y.bytes) refl m) ∙ ap (λ j. take (at b m).bytes (drop j shelf')) (start_changed b n x lt refl m)

    bytes_other : (m : ℕ) → m < size b → (m ≡ n → ⊥) → sheet_bytes d shelf' m ≡ sheet_bytes b shelf m
    bytes_other m l ne =
        moved m ∙ ap (λ s. take (at b m).bytes (drop (start_of b m) s)) es
        ∙ ⊎_elim
        (λ before. part_before shelf (start_of b n + p) new start (start_of b m) (at b m).bytes (omega (arith, end_before b m n before l)))
        (λ behind.
        let over : n < m = ⊎_elim (λ e. absurd (ne e)) (λ h. omega (arith, h, behind)) (cases_eq m n) in
        ap (take (at b m).bytes) (drop_behind shelf (start_of b n + p) new start (start_of b m) (omega (arith, end_before b n m over lt, fits))))
        (cases_lt m n)

    bytes_own : sheet_bytes d shelf' n ≡ overwritten (sheet_bytes b shelf n) p new
    bytes_own = moved n ∙ ap (λ s. take (at b n).bytes (drop (start_of b n) s)) es ∙ part_overwritten shelf (start_of b n) (at b n).bytes p new ends fits

    by_block : (P : List ℕ → Block M → Type 0) → P (overwritten (sheet_bytes b shelf n) p new) x → ((m : ℕ) → m < size b → P (sheet_bytes b shelf m) (at b m)) → (m : ℕ) → m < size d → P (sheet_bytes d shelf' m) (at d m)
    by_block P own others m l =
        ⊎_elim (λ e. subst (λ j. P (sheet_bytes d shelf' j) (at d j)) (sym e) (subst (λ s. P s (at d n)) (sym bytes_own) (subst (P (overwritten (sheet_bytes b shelf n) p new)) (sym (at_changed b n x lt)) own)))
        (λ ne. subst (λ s. P s (at d m)) (sym (bytes_other m (in_book m l) ne)) (subst (P (sheet_bytes b shelf m)) (sym (at_other b n x lt m ne)) (others m (in_book m l)))) (cases_eq m n)

    shelved' : Shelved rules.wide d shelf'
    shelved' = record {
      room = omega (arith, used_changed b n x lt refl, st.shelf_has.room, ap length es, length_overwritten shelf (start_of b n + p) new start (omega (arith, fits, ends)));
      framed = by_block (λ bs _. Framed bs) (stands.framed new wide) st.shelf_has.framed;
      right = by_block (λ bs _. Right rules.wide bs) (stands.right new wide) st.shelf_has.right;
      says = by_block (λ bs y. sheet_of rules.wide bs ≡ y.sheet) says_new st.shelf_has.says;
    }

    replaced_shelf : Replaced rules.wide b n k new shelf shelf'
    replaced_shelf = record { place = p; stands = stands; is = es }

  module _ (index' : List Row) (mk : Marked rules.wide shelf n (size b) index index') where
    -- what a marked row stands on, by the book
    leans_on : (m : ℕ) → m < size b → leans index' m (kept_names rules.wide shelf (row_at index m)) ≡ true → (j : ℕ) × (StandsOn b m j × ((j < m) × ((row_at index' j).old ≡ true)))
    leans_on m l h = leans_some index' m (at b m).sheet.instances (subst (λ ks. leans index' m ks ≡ true) (names_are st m l) h)

    mark_stale : (fuel m : ℕ) → m < fuel → m < size b → (row_at index' m).old ≡ true → Stale d m
    mark_stale zero m l lm o = absurd (omega (arith, l))
    mark_stale (suc fuel) m l lm o =
        ⊎_elim (λ e. stale_above m (subst (Within b n) (sym e) itself))
        (λ ne. ⊎_elim (λ was. stale_now m (st.index_has.marked m lm was))
        (λ on. let q = leans_on m lm on in
        upward' m q.0 (omega (arith, lm, size_changed b n x lt)) (on_now m q.0 q.1.0) (mark_stale fuel q.0 (omega (arith, l, q.1.1.0)) (omega (arith, lm, q.1.1.0)) q.1.1.1))
        (or_cases _ _ (sym (mk.marks m lm ne) ∙ o)))
        (cases_eq m n)

    marks : (m : ℕ) → m < size b → ((m ≡ n → ⊥) → ((row_at index m).old ≡ true) ⊎ (leans index' m (kept_names rules.wide shelf (row_at index m)) ≡ true)) → (row_at index' m).old ≡ true
    marks m lm h = ⊎_elim (λ e. ap (λ j. (row_at index' j).old) e ∙ mk.itself) (λ ne. mk.marks m lm ne ∙ ⊎_elim (or_left _ _) (or_right _ _) (h ne)) (cases_eq m n)

    above_marked : {m : ℕ} → m < size b → Within b n m → (row_at index' m).old ≡ true
    above_marked lm itself = mk.itself
    above_marked {m} lm (deeper j on w) =
        let low = (facts.blocks m lm).earlier j on in
        let o = above_marked (omega (arith, lm, low)) w in
        marks m lm (λ _. inr (subst (λ ks. leans index' m ks ≡ true) (sym (names_are st m lm)) (leans_by index' m j (at b m).sheet.instances on low o)))

    row_same : (m : ℕ) (old : Bool) → row_of b m old ≡ row_of d m old
    row_same m old =
        ap (λ j. record { used = true; start = j; len = (at b m).bytes; inputs = (at b m).sheet.face.inputs; outputs = (at b m).sheet.face.outputs; lens = lens_of (at b m).card; old = old }) (sym (start_changed b n x lt refl m))
        ∙ sym (kept b n x lt (λ y. record { used = true; start = start_of d m; len = y.bytes; inputs = y.sheet.face.inputs; outputs = y.sheet.face.outputs; lens = lens_of y.card; old = old }) refl m)

    indexed' : Indexed d index'
    indexed' = record {
      room = omega (arith, size_changed b n x lt, mk.same_length, st.index_has.room);
      rows = λ m l. mk.rows m ∙ ap (λ r. with_mark r (row_at index' m).old) (st.index_has.rows m (in_book m l)) ∙ row_same m (row_at index' m).old;
      unused = λ m high. mk.past m (omega (arith, high, size_changed b n x lt)) ∙ st.index_has.unused m (omega (arith, high, size_changed b n x lt));
      marked = λ m l o. mark_stale (m + 1) m (omega arith) (in_book m l) o;
      stale = λ m l s. let l' = in_book m l in ⊎_elim (λ y. marks m l' (λ _. inl (st.index_has.stale m l' y))) (above_marked l') (stale_then m s);
    }

    old_kept : (m : ℕ) → m < size b → (Within b n m → ⊥) → (row_at index' m).old ≡ (row_at index m).old
    old_kept m l no_way = ⊎_elim
        (λ e. e ∙ sym (st.index_has.stale m l (⊎_elim (λ y. y) (λ w. absurd (no_way w)) (stale_then m (mark_stale (m + 1) m (omega arith) l e)))))
        (λ e. ⊎_elim (λ f. absurd (both_ways (row_at index' m).old e (marks m l (λ _. inl f)))) (λ f. e ∙ sym f) (cases_Bool (row_at index m).old))
        (cases_Bool (row_at index' m).old)

    -- exactly the rows of the block and of those above it are marked
    pub retimed_rows : Remarked b n index index'
    retimed_rows = record {
      same_length = mk.same_length;
      above = λ m l w. mk.rows m ∙ ap (with_mark (row_at index m)) (above_marked l w);
      others = λ m no_way. ⊎_elim (λ l. mk.rows m ∙ ap (with_mark (row_at index m)) (old_kept m l no_way)) (λ high. mk.past m high) (cases_lt m (size b));
    }

    pub retimed_stands : (shelf' : List ℕ) → shelf' ≡ overwritten shelf (start_of b n + p) new → Stands rules d shelf' index' cards
    retimed_stands shelf' es = record { book = facts'; shelf_has = shelved' shelf' es; index_has = indexed'; cards_have = held' _ st.cards_have }

-- What a rework does to the book and to the tables that stand for it. Assumes nothing.
use Rattle.std.proofs.Common.{◌≡◌, ℕ, ◌*◌, ◌<◌, ◌≤◌, Bool, true, false, List, [], length, take, drop, set, sym, refl, ap, ◌∙◌, subst, ⊎_elim, arith}
use Rattle.std.proofs.lemmas.List.{length-set, get_or-set_same, get_or-set_other}
use Rattle.std.proofs.lemmas.Bool.{cases_eq, cases_lt, both_ways}
use Rattle.costs.specs.Entries.{entry_ops}
use Rattle.costs.specs.Lists.{Among, Sized}
use Rattle.costs.specs.declared.entry.Entry.{Entry}
use Rattle.sheets.specs.Form.{Form}
use Rattle.sheets.specs.Sheets.{Sheet, sheet_of}
use Rattle.library.specs.Books.{Rules, Block, Book, size, at, inputs_of, start_of, instance_of, worked_block, with_work, StandsOn, Stale}
use Rattle.library.specs.Checks.{blocks_of, faces_beneath, cards_beneath, Framed, Right, Behind, Never, Named, CardOf}
use Rattle.library.specs.Memory.{BlockFacts, Times, BookFacts, Shelved, Indexed, Stands}
use Rattle.library.specs.Tables.{no_row, row_at, row_of, lens_of, card_rows, sheet_bytes, overwritten}
use Rattle.library.specs.declared.row.Row.{Row}
use Rattle.library.proofs.Books.{among_place, among_by, within_by, size_changed, at_changed, at_other, kept, start_changed, used_changed, named_as, card_as}
use Rattle.library.proofs.Parts.{part_written, part_before, drop_behind, length_overwritten}
use Rattle.library.proofs.Rows.{length_card_rows}

module _ {M : Type 0} {rules : Rules M} {b : Book M} {shelf : List ℕ} {index : List Row} {cards : List (Entry M)} (n : ℕ) (lt : n < size b) (was : Stale b n) (st : Stands rules b shelf index cards)
    (ready : Never (Behind (blocks_of b) (at b n).sheet)) (card : ℕ → List (Entry M)) (worked : CardOf rules (blocks_of b) (at b n).sheet card) (sized : (e : ℕ) → e < inputs_of b n → Sized (card e)) where
  abbrev x : Block M
  x = worked_block (at b n) card b.clock

  abbrev d : Book M
  d = with_work b n card

  abbrev z : Entry M
  z = (entry_ops rules.ops).zero

  facts : BookFacts rules b
  facts = st.book

  sheet_kept : (m : ℕ) → (at d m).sheet ≡ (at b m).sheet
  sheet_kept = kept b n x lt (λ y. y.sheet) refl

  retimed_kept : (m : ℕ) → (at d m).retimed ≡ (at b m).retimed
  retimed_kept = kept b n x lt (λ y. y.retimed) refl

  in_book : (m : ℕ) → m < size d → m < size b
  in_book m l = omega (arith, l, size_changed b n x lt)

  on_then : (m k : ℕ) → StandsOn d m k → StandsOn b m k
  on_then m k h = subst (λ (s : Sheet). Among k s.instances) (sheet_kept m) h

  on_now : (m k : ℕ) → StandsOn b m k → StandsOn d m k
  on_now m k h = subst (λ (s : Sheet). Among k s.instances) (sym (sheet_kept m)) h

  now_current : Stale d n → ⊥
  now_current s = omega (arith, s.later, ap (λ (y : Block M). y.worked) (at_changed b n x lt), retimed_kept s.block, facts.times.retimed s.block)

  -- the other cards are out of date as they were
  stale_then : (p : ℕ) → Stale d p → (p ≡ n → ⊥) × Stale b p
  stale_then p s =
      let ne : p ≡ n → ⊥ = λ e. now_current (subst (Stale d) e s) in
      (ne, record { block = s.block; within = within_by d b on_then s.within; later = omega (arith, s.later, ap (λ (y : Block M). y.worked) (at_other b n x lt p ne), retimed_kept s.block) })

  stale_now : (p : ℕ) → (p ≡ n → ⊥) → Stale b p → Stale d p
  stale_now p ne s = record { block = s.block; within = within_by b d on_now s.within; later = omega (arith, s.later, ap (λ (y : Block M). y.worked) (at_other b n x lt p ne), retimed_kept s.block) }

  -- no block that n stands on is out of date
  beneath : (k : ℕ) → StandsOn b n k → Stale b k → ⊥
  beneath k on s =
      let r = among_place k (at b n).sheet.instances 255 on in
      ready r.0 (record { instance = r.1.0; stale = subst (Stale b) (sym r.1.1) s })

  times' : Times d
  times' = record {
    worked = λ m. ⊎_elim (λ e. omega (arith, ap (λ k. (at d k).worked) e, ap (λ (y : Block M). y.worked) (at_changed b n x lt)))
        (λ ne. omega (arith, ap (λ (y : Block M). y.worked) (at_other b n x lt m ne), facts.times.worked m)) (cases_eq m n);
    retimed = λ m. omega (arith, retimed_kept m, facts.times.retimed m);
    upward = λ m k l on s.
        let t = stale_then k s in
        let on' = on_then m k on in
        stale_now m (λ e. beneath k (subst (λ y. StandsOn b y k) e on') t.1) (facts.times.upward m k (in_book m l) on' t.1);
  }

  -- interfaces are as they were; so is every card but that of n
  faces_kept : (s : Sheet) → faces_beneath (blocks_of d) s ≡ faces_beneath (blocks_of b) s
  faces_kept s = λ k i. kept b n x lt (λ y. record { inputs = y.sheet.face.inputs; outputs = y.sheet.face.outputs }) refl (instance_of s i) k

  card_other : (m : ℕ) → (m ≡ n → ⊥) → (at d m).card ≡ (at b m).card
  card_other m ne = ap (λ (y : Block M). y.card) (at_other b n x lt m ne)

  cards_kept : (s : Sheet) → (Among n s.instances → ⊥) → cards_beneath (blocks_of d) s ≡ cards_beneath (blocks_of b) s
  cards_kept s none = λ k i. card_other (instance_of s i) (λ e. none (among_by n s.instances i 255 (λ f. omega (arith, f, lt, facts.few)) e)) k

  -- a current block does not stand on n, which was out of date
  not_on : (m : ℕ) → m < size b → (Stale b m → ⊥) → Among n (at b m).sheet.instances → ⊥
  not_on m l cur on = cur (facts.times.upward m n l on was)

  not_itself : Among n (at b n).sheet.instances → ⊥
  not_itself on = omega (arith, (facts.blocks n lt).earlier n on)

  -- the facts of a block that is as it was, and of the one worked
  other_facts : (m : ℕ) → m < size b → (m ≡ n → ⊥) → BlockFacts rules d m
  other_facts m l ne =
      let same = at_other b n x lt m ne in
      let f = facts.blocks m l in
      record {
        form = subst (λ (y : Block M). Form rules.wide y.sheet) (sym same) f.form;
        earlier = λ k on. f.earlier k (on_then m k on);
        named = subst (λ (y : Block M). Named (blocks_of d) y.sheet) (sym same) (named_as (blocks_of b) (blocks_of d) (at b m).sheet (faces_kept (at b m).sheet) f.named);
        sized = subst (λ (y : Block M). (e : ℕ) → e < y.sheet.face.inputs → Sized (y.card e)) (sym same) f.sized;
        none = subst (λ (y : Block M). (e : ℕ) → y.sheet.face.inputs ≤ e → y.card e ≡ []) (sym same) f.none;
        card = λ cur.
            let cur' : Stale b m → ⊥ = λ s. cur (stale_now m ne s) in
            subst (λ (y : Block M). CardOf rules (blocks_of d) y.sheet y.card) (sym same)
            (card_as (blocks_of b) (blocks_of d) (at b m).sheet (faces_kept (at b m).sheet) rules (at b m).card (cards_kept (at b m).sheet (not_on m l cur')) (f.card cur'));
      }

  own_facts : BlockFacts rules d n
  own_facts =
      let same = at_changed b n x lt in
      let f = facts.blocks n lt in
      record {
        form = subst (λ (y : Block M). Form rules.wide y.sheet) (sym same) f.form;
        earlier = λ k on. f.earlier k (on_then n k on);
        named = subst (λ (y : Block M). Named (blocks_of d) y.sheet) (sym same) (named_as (blocks_of b) (blocks_of d) (at b n).sheet (faces_kept (at b n).sheet) f.named);
        sized = subst (λ (y : Block M). (e : ℕ) → e < y.sheet.face.inputs → Sized (y.card e)) (sym same) sized;
        none = subst (λ (y : Block M). (e : ℕ) → y.sheet.face.inputs ≤ e → y.card e ≡ []) (sym same) worked.none;
        card = λ _.
            subst (λ (y : Block M). CardOf rules (blocks_of d) y.sheet y.card) (sym same)
            (card_as (blocks_of b) (blocks_of d) (at b n).sheet (faces_kept (at b n).sheet) rules card (cards_kept (at b n).sheet not_itself) worked);
      }

  facts' : BookFacts rules d
  facts' = record {
    few = omega (arith, size_changed b n x lt, facts.few);
    blocks = λ m l. ⊎_elim (λ e. subst (BlockFacts rules d) (sym e) own_facts) (other_facts m (in_book m l)) (cases_eq m n);
    times = times';
  }

  bytes_kept : (m : ℕ) → sheet_bytes d shelf m ≡ sheet_bytes b shelf m
  bytes_kept m = ap (λ k. take k (drop (start_of d m) shelf)) (kept b n x lt (λ y. y.bytes) refl m) ∙ ap (λ k. take (at b m).bytes (drop k shelf)) (start_changed b n x lt refl m)

  shelved' : Shelved rules.wide d shelf
  shelved' = record {
    room = omega (arith, used_changed b n x lt refl, st.shelf_has.room);
    framed = λ m l. subst Framed (sym (bytes_kept m)) (st.shelf_has.framed m (in_book m l));
    right = λ m l. subst (Right rules.wide) (sym (bytes_kept m)) (st.shelf_has.right m (in_book m l));
    says = λ m l. ap (sheet_of rules.wide) (bytes_kept m) ∙ st.shelf_has.says m (in_book m l) ∙ sym (sheet_kept m);
  }

  row_other : (m : ℕ) → (m ≡ n → ⊥) → (old : Bool) → row_of b m old ≡ row_of d m old
  row_other m ne old =
      ap (λ k. record { used = true; start = k; len = (at b m).bytes; inputs = (at b m).sheet.face.inputs; outputs = (at b m).sheet.face.outputs; lens = lens_of (at b m).card; old = old }) (sym (start_changed b n x lt refl m))
      ∙ ap (λ (y : Block M). record { used = true; start = start_of d m; len = y.bytes; inputs = y.sheet.face.inputs; outputs = y.sheet.face.outputs; lens = lens_of y.card; old = old }) (sym (at_other b n x lt m ne))

  module _ (index' : List Row) (ei : index' ≡ set index n (row_of d n false)) where
    row_here : row_at index' n ≡ row_of d n false
    row_here = ap (λ i. row_at i n) ei ∙ get_or-set_same index n (row_of d n false) no_row (omega (arith, lt, st.index_has.room))

    rows_other : (m : ℕ) → (m ≡ n → ⊥) → row_at index' m ≡ row_at index m
    rows_other m ne = ap (λ i. row_at i m) ei ∙ get_or-set_other index n m (row_of d n false) no_row ne

    indexed' : Indexed d index'
    indexed' = record {
      room = omega (arith, size_changed b n x lt, st.index_has.room, ap length ei, length-set index n (row_of d n false));
      rows = λ m l. ⊎_elim
          (λ e. subst (λ k. row_at index' k ≡ row_of d k (row_at index' k).old) (sym e) (row_here ∙ ap (λ (r : Row). row_of d n r.old) (sym row_here)))
          (λ ne. rows_other m ne ∙ st.index_has.rows m (in_book m l) ∙ ap (λ (r : Row). row_of b m r.old) (sym (rows_other m ne)) ∙ row_other m ne (row_at index' m).old) (cases_eq m n);
      unused = λ m high. rows_other m (λ e. omega (arith, e, high, lt, size_changed b n x lt)) ∙ st.index_has.unused m (omega (arith, high, size_changed b n x lt));
      marked = λ m l o. ⊎_elim (λ e. absurd (both_ways (row_at index' n).old (ap (λ (r : Row). r.old) row_here) (subst (λ k. (row_at index' k).old ≡ true) e o)))
          (λ ne. stale_now m ne (st.index_has.marked m (in_book m l) (sym (ap (λ (r : Row). r.old) (rows_other m ne)) ∙ o))) (cases_eq m n);
      stale = λ m l s. let t = stale_then m s in ap (λ (r : Row). r.old) (rows_other m t.0) ∙ st.index_has.stale m (in_book m l) t.1;
    }

    module _ (cards' : List (Entry M)) (ec : cards' ≡ overwritten cards (128 * n) (card_rows z card)) where
      long : length (card_rows z card) ≡ 128
      long = length_card_rows z card

      low : 128 * n ≤ length cards
      low = omega (arith, lt, st.cards_have.room)

      rows_held : (m : ℕ) → m < size b → take 128 (drop (128 * m) cards') ≡ card_rows z (at d m).card
      rows_held m l =
          ap (λ c. take 128 (drop (128 * m) c)) ec
          ∙ ⊎_elim
          (λ e. subst (λ k. take 128 (drop (128 * k) (overwritten cards (128 * n) (card_rows z card))) ≡ card_rows z (at d k).card) (sym e)
          (part_written cards (128 * n) (card_rows z card) low 128 (sym long) ∙ ap (λ (y : Block M). card_rows z y.card) (sym (at_changed b n x lt))))
          (λ ne. ⊎_elim
          (λ before. part_before cards (128 * n) (card_rows z card) low (128 * m) 128 (omega arith))
          (λ behind. ap (take 128) (drop_behind cards (128 * n) (card_rows z card) low (128 * m) (⊎_elim (λ e. absurd (ne e)) (λ h. omega (arith, h, long, behind)) (cases_eq m n)))) (cases_lt m n)
          ∙ st.cards_have.rows m l ∙ ap (card_rows z) (sym (card_other m ne)))
          (cases_eq m n)

      pub reworked_stands : Stands rules d shelf index' cards'
      reworked_stands = record {
        book = facts';
        shelf_has = shelved';
        index_has = indexed';
        cards_have = record {
          room = omega (arith, size_changed b n x lt, st.cards_have.room, ap length ec, length_overwritten cards (128 * n) (card_rows z card) low (omega (arith, long, lt, st.cards_have.room)));
          rows = λ m l. rows_held m (in_book m l);
        };
      }

-- What an enter does to the book and to the tables that stand for it. Assumes nothing.
use Rattle.std.proofs.Common.{◌≡◌, ℕ, ◌+◌, ◌*◌, ◌<◌, ◌≤◌, Bool, true, false, List, [], length, take, drop, set, sym, refl, ap, ◌∙◌, subst, ⊎_elim, arith}
use Rattle.std.proofs.lemmas.List.{length-set, get_or-set_same, get_or-set_other, get_or_past}
use Rattle.std.proofs.lemmas.Bool.{cases_eq, cases_lt, both_ways}
use Rattle.costs.specs.Entries.{entry_ops}
use Rattle.costs.specs.Lists.{Among, Sized}
use Rattle.costs.specs.declared.entry.Entry.{Entry}
use Rattle.sheets.specs.Form.{Form}
use Rattle.sheets.specs.Sheets.{Sheet, sheet_of}
use Rattle.sheets.proofs.Forms.{form_of}
use Rattle.library.specs.Books.{Rules, Block, Book, no_block, size, at, used, start_of, instance_of, with_block, StandsOn, Within, itself, deeper, Stale}
use Rattle.library.specs.Checks.{blocks_of, faces_beneath, cards_beneath, Framed, Right, Missing, Behind, Never, Named, CardOf}
use Rattle.library.specs.Memory.{BlockFacts, Times, BookFacts, Shelved, Indexed, Held, Stands}
use Rattle.library.specs.Tables.{no_row, row_at, row_of, lens_of, card_rows, sheet_bytes, overwritten}
use Rattle.library.specs.declared.row.Row.{Row}
use Rattle.library.proofs.Books.{among_place, among_by, within_by, end_within, size_added, at_added, at_else, start_added, start_last, used_added, named_as, card_as}
use Rattle.library.proofs.Parts.{part_written, part_before, length_overwritten}
use Rattle.library.proofs.Rows.{length_card_rows}

module _ {M : Type 0} {rules : Rules M} {b : Book M} {shelf : List ℕ} {index : List Row} {cards : List (Entry M)} (st : Stands rules b shelf index cards)
    (bs : List ℕ) (framed : Framed bs) (right : Right rules.wide bs) (known : Never (Missing (blocks_of b) (sheet_of rules.wide bs))) (fresh : Never (Behind (blocks_of b) (sheet_of rules.wide bs)))
    (named : Named (blocks_of b) (sheet_of rules.wide bs)) (few : size b < 64) (card : ℕ → List (Entry M)) (worked : CardOf rules (blocks_of b) (sheet_of rules.wide bs) card)
    (sized : (e : ℕ) → e < (sheet_of rules.wide bs).face.inputs → Sized (card e)) where
  abbrev s : Sheet
  s = sheet_of rules.wide bs

  abbrev x : Block M
  x = record { sheet = s; bytes = length bs; card = card; worked = b.clock; retimed = 0 }

  abbrev d : Book M
  d = with_block b s (length bs) card

  abbrev z : Entry M
  z = (entry_ops rules.ops).zero

  facts : BookFacts rules b
  facts = st.book

  new_size : size d ≡ size b + 1
  new_size = size_added b x

  at_new : at d (size b) ≡ x
  at_new = at_added b x

  at_before : (m : ℕ) → m < size b → at d m ≡ at b m
  at_before m l = at_else b x m (λ e. omega (arith, e, l))

  -- a block of the new book is an old one or the new one
  split : (P : ℕ → Type 0) → ((m : ℕ) → m < size b → P m) → P (size b) → (m : ℕ) → m < size d → P m
  split P old new m l = ⊎_elim (λ e. subst P (sym e) new) (λ ne. old m (omega (arith, ne, l, new_size))) (cases_eq m (size b))

  -- the new sheet stands on blocks of the book whose cards are current
  earlier : (k : ℕ) → Among k s.instances → k < size b
  earlier k on =
      let r = among_place k s.instances 255 on in
      ⊎_elim (λ l. l) (λ high. absurd (known r.0 (record { instance = r.1.0; no_block = omega (arith, r.1.1, high) }))) (cases_lt k (size b))

  current : (k : ℕ) → Among k s.instances → Stale b k → ⊥
  current k on stale = let r = among_place k s.instances 255 on in fresh r.0 (record { instance = r.1.0; stale = subst (Stale b) (sym r.1.1) stale })

  on_then : (m k : ℕ) → m < size b → StandsOn d m k → StandsOn b m k
  on_then m k l h = subst (λ (y : Block M). Among k y.sheet.instances) (at_before m l) h

  no_instances : (m k : ℕ) → size b ≤ m → StandsOn b m k → ⊥
  no_instances m k high h = subst (λ (y : Block M). Among k y.sheet.instances) (get_or_past b.blocks m no_block high) h

  on_now : (m k : ℕ) → StandsOn b m k → StandsOn d m k
  on_now m k h = ⊎_elim (λ l. subst (λ (y : Block M). Among k y.sheet.instances) (sym (at_before m l)) h) (λ high. absurd (no_instances m k high h)) (cases_lt m (size b))

  -- what is within an old block is an old block
  within_then : {p m : ℕ} → m < size b → Within d p m → (p < size b) × Within b p m
  within_then l itself = (l, itself)
  within_then {m = m} l (deeper k on w) =
      let on' = on_then m k l on in
      let r = within_then (omega (arith, l, (facts.blocks m l).earlier k on')) w in
      (r.0, deeper k on' r.1)

  within_low : {p m : ℕ} → m < size b → Within b p m → p < size b
  within_low l itself = l
  within_low {m = m} l (deeper k on w) = within_low (omega (arith, l, (facts.blocks m l).earlier k on)) w

  stale_then : (m : ℕ) → m < size b → Stale d m → Stale b m
  stale_then m l t =
      let r = within_then l t.within in
      record { block = t.block; within = r.1; later = omega (arith, t.later, ap (λ (y : Block M). y.worked) (at_before m l), ap (λ (y : Block M). y.retimed) (at_before t.block r.0)) }

  stale_now : (m : ℕ) → m < size b → Stale b m → Stale d m
  stale_now m l t =
      let low = within_low l t.within in
      record { block = t.block; within = within_by b d on_now t.within; later = omega (arith, t.later, ap (λ (y : Block M). y.worked) (at_before m l), ap (λ (y : Block M). y.retimed) (at_before t.block low)) }

  retimed_past : (p : ℕ) → (at d p).retimed < b.clock
  retimed_past p =
      ⊎_elim (λ e. omega (arith, ap (λ j. (at d j).retimed) e, ap (λ (y : Block M). y.retimed) at_new, facts.times.retimed 0))
      (λ ne. omega (arith, ap (λ (y : Block M). y.retimed) (at_else b x p ne), facts.times.retimed p)) (cases_eq p (size b))

  new_current : Stale d (size b) → ⊥
  new_current t = omega (arith, t.later, ap (λ (y : Block M). y.worked) at_new, retimed_past t.block)

  times' : Times d
  times' = record {
    worked = λ m. ⊎_elim (λ e. omega (arith, ap (λ j. (at d j).worked) e, ap (λ (y : Block M). y.worked) at_new))
        (λ ne. omega (arith, ap (λ (y : Block M). y.worked) (at_else b x m ne), facts.times.worked m)) (cases_eq m (size b));
    retimed = λ m. omega (arith, retimed_past m);
    upward = λ m k l. split (λ m. StandsOn d m k → Stale d k → Stale d m)
        (λ m l on t. let on' = on_then m k l on in let low : k < size b = omega (arith, l, (facts.blocks m l).earlier k on') in stale_now m l (facts.times.upward m k l on' (stale_then k low t)))
        (λ on t. let on' = subst (λ (y : Block M). Among k y.sheet.instances) at_new on in absurd (current k on' (stale_then k (earlier k on') t))) m l;
  }

  -- what stands on earlier blocks has the interfaces and cards beneath that it had
  apart : (t : Sheet) → ((k : ℕ) → Among k t.instances → k < size b) → (i : ℕ) → instance_of t i ≡ size b → ⊥
  apart t low i e = let on = among_by (size b) t.instances i 255 (λ f. omega (arith, f, few)) e in omega (arith, low (size b) on)

  faces_kept : (t : Sheet) → ((k : ℕ) → Among k t.instances → k < size b) → faces_beneath (blocks_of d) t ≡ faces_beneath (blocks_of b) t
  faces_kept t low = λ j i. ap (λ (y : Block M). record { inputs = y.sheet.face.inputs; outputs = y.sheet.face.outputs }) (at_else b x (instance_of t i) (apart t low i)) j

  cards_kept : (t : Sheet) → ((k : ℕ) → Among k t.instances → k < size b) → cards_beneath (blocks_of d) t ≡ cards_beneath (blocks_of b) t
  cards_kept t low = λ j i. ap (λ (y : Block M). y.card) (at_else b x (instance_of t i) (apart t low i)) j

  old_facts : (m : ℕ) → m < size b → BlockFacts rules d m
  old_facts m l =
      let same = at_before m l in
      let f = facts.blocks m l in
      let low : (k : ℕ) → Among k (at b m).sheet.instances → k < size b = λ k on. omega (arith, l, f.earlier k on) in
      record {
        form = subst (λ (y : Block M). Form rules.wide y.sheet) (sym same) f.form;
        earlier = λ k on. f.earlier k (on_then m k l on);
        named = subst (λ (y : Block M). Named (blocks_of d) y.sheet) (sym same) (named_as (blocks_of b) (blocks_of d) (at b m).sheet (faces_kept (at b m).sheet low) f.named);
        sized = subst (λ (y : Block M). (e : ℕ) → e < y.sheet.face.inputs → Sized (y.card e)) (sym same) f.sized;
        none = subst (λ (y : Block M). (e : ℕ) → y.sheet.face.inputs ≤ e → y.card e ≡ []) (sym same) f.none;
        card = λ cur. subst (λ (y : Block M). CardOf rules (blocks_of d) y.sheet y.card) (sym same)
            (card_as (blocks_of b) (blocks_of d) (at b m).sheet (faces_kept (at b m).sheet low) rules (at b m).card (cards_kept (at b m).sheet low) (f.card (λ t. cur (stale_now m l t))));
      }

  new_facts : BlockFacts rules d (size b)
  new_facts = record {
    form = subst (λ (y : Block M). Form rules.wide y.sheet) (sym at_new) (form_of rules.wide bs right);
    earlier = λ k on. earlier k (subst (λ (y : Block M). Among k y.sheet.instances) at_new on);
    named = subst (λ (y : Block M). Named (blocks_of d) y.sheet) (sym at_new) (named_as (blocks_of b) (blocks_of d) s (faces_kept s earlier) named);
    sized = subst (λ (y : Block M). (e : ℕ) → e < y.sheet.face.inputs → Sized (y.card e)) (sym at_new) sized;
    none = subst (λ (y : Block M). (e : ℕ) → y.sheet.face.inputs ≤ e → y.card e ≡ []) (sym at_new) worked.none;
    card = λ _. subst (λ (y : Block M). CardOf rules (blocks_of d) y.sheet y.card) (sym at_new) (card_as (blocks_of b) (blocks_of d) s (faces_kept s earlier) rules card (cards_kept s earlier) worked);
  }

  facts' : BookFacts rules d
  facts' = record { few = omega (arith, new_size, few); blocks = split (BlockFacts rules d) old_facts new_facts; times = times' }

  module _ (shelf' : List ℕ) (room : used b + length bs ≤ length shelf) (es : shelf' ≡ overwritten shelf (used b) bs) where
    low_start : used b ≤ length shelf
    low_start = omega (arith, room)

    bytes_before : (m : ℕ) → m < size b → sheet_bytes d shelf' m ≡ sheet_bytes b shelf m
    bytes_before m l =
        ap (λ (y : Block M). take y.bytes (drop (start_of d m) shelf')) (at_before m l) ∙ ap (λ j. take (at b m).bytes (drop j shelf')) (start_added b x m (omega (arith, l)))
        ∙ ap (λ t. take (at b m).bytes (drop (start_of b m) t)) es ∙ part_before shelf (used b) bs low_start (start_of b m) (at b m).bytes (end_within b m l)

    bytes_new : sheet_bytes d shelf' (size b) ≡ bs
    bytes_new =
        ap (λ (y : Block M). take y.bytes (drop (start_of d (size b)) shelf')) at_new ∙ ap (λ j. take (length bs) (drop j shelf')) (start_last b x)
        ∙ ap (λ t. take (length bs) (drop (used b) t)) es ∙ part_written shelf (used b) bs low_start (length bs) refl

    shelved' : Shelved rules.wide d shelf'
    shelved' = record {
      room = omega (arith, used_added b x, room, ap length es, length_overwritten shelf (used b) bs low_start room);
      framed = split (λ m. Framed (sheet_bytes d shelf' m)) (λ m l. subst Framed (sym (bytes_before m l)) (st.shelf_has.framed m l)) (subst Framed (sym bytes_new) framed);
      right = split (λ m. Right rules.wide (sheet_bytes d shelf' m)) (λ m l. subst (Right rules.wide) (sym (bytes_before m l)) (st.shelf_has.right m l)) (subst (Right rules.wide) (sym bytes_new) right);
      says = split (λ m. sheet_of rules.wide (sheet_bytes d shelf' m) ≡ (at d m).sheet)
          (λ m l. ap (sheet_of rules.wide) (bytes_before m l) ∙ st.shelf_has.says m l ∙ sym (ap (λ (y : Block M). y.sheet) (at_before m l)))
          (ap (sheet_of rules.wide) bytes_new ∙ sym (ap (λ (y : Block M). y.sheet) at_new));
    }

  row_before : (m : ℕ) → m < size b → (old : Bool) → row_of b m old ≡ row_of d m old
  row_before m l old =
      ap (λ k. record { used = true; start = k; len = (at b m).bytes; inputs = (at b m).sheet.face.inputs; outputs = (at b m).sheet.face.outputs; lens = lens_of (at b m).card; old = old }) (sym (start_added b x m (omega (arith, l))))
      ∙ ap (λ (y : Block M). record { used = true; start = start_of d m; len = y.bytes; inputs = y.sheet.face.inputs; outputs = y.sheet.face.outputs; lens = lens_of y.card; old = old }) (sym (at_before m l))

  module _ (index' : List Row) (room : size b < length index) (ei : index' ≡ set index (size b) (row_of d (size b) false)) where
    row_here : row_at index' (size b) ≡ row_of d (size b) false
    row_here = ap (λ i. row_at i (size b)) ei ∙ get_or-set_same index (size b) (row_of d (size b) false) no_row room

    rows_other : (m : ℕ) → (m ≡ size b → ⊥) → row_at index' m ≡ row_at index m
    rows_other m ne = ap (λ i. row_at i m) ei ∙ get_or-set_other index (size b) m (row_of d (size b) false) no_row ne

    rows_low : (m : ℕ) → m < size b → row_at index' m ≡ row_at index m
    rows_low m l = rows_other m (λ e. omega (arith, e, l))

    indexed' : Indexed d index'
    indexed' = record {
      room = omega (arith, new_size, room, ap length ei, length-set index (size b) (row_of d (size b) false));
      rows = split (λ m. row_at index' m ≡ row_of d m (row_at index' m).old)
          (λ m l. rows_low m l ∙ st.index_has.rows m l ∙ ap (λ (r : Row). row_of b m r.old) (sym (rows_low m l)) ∙ row_before m l (row_at index' m).old)
          (row_here ∙ ap (λ (r : Row). row_of d (size b) r.old) (sym row_here));
      unused = λ m high. rows_other m (λ e. omega (arith, e, high, new_size)) ∙ st.index_has.unused m (omega (arith, high, new_size));
      marked = split (λ m. (row_at index' m).old ≡ true → Stale d m)
          (λ m l o. stale_now m l (st.index_has.marked m l (sym (ap (λ (r : Row). r.old) (rows_low m l)) ∙ o)))
          (λ o. absurd (both_ways (row_at index' (size b)).old (ap (λ (r : Row). r.old) row_here) o));
      stale = split (λ m. Stale d m → (row_at index' m).old ≡ true)
          (λ m l t. ap (λ (r : Row). r.old) (rows_low m l) ∙ st.index_has.stale m l (stale_then m l t))
          (λ t. absurd (new_current t));
    }

  module _ (cards' : List (Entry M)) (room : 128 * size b + 128 ≤ length cards) (ec : cards' ≡ overwritten cards (128 * size b) (card_rows z card)) where
    long : length (card_rows z card) ≡ 128
    long = length_card_rows z card

    low_rows : 128 * size b ≤ length cards
    low_rows = omega (arith, room)

    held' : Held z d cards'
    held' = record {
      room = omega (arith, new_size, room, ap length ec, length_overwritten cards (128 * size b) (card_rows z card) low_rows (omega (arith, long, room)));
      rows = split (λ m. take 128 (drop (128 * m) cards') ≡ card_rows z (at d m).card)
          (λ m l. ap (λ c. take 128 (drop (128 * m) c)) ec ∙ part_before cards (128 * size b) (card_rows z card) low_rows (128 * m) 128 (omega (arith, l))
          ∙ st.cards_have.rows m l ∙ ap (λ (y : Block M). card_rows z y.card) (sym (at_before m l)))
          (ap (λ c. take 128 (drop (128 * size b) c)) ec ∙ part_written cards (128 * size b) (card_rows z card) low_rows 128 (sym long) ∙ ap (λ (y : Block M). card_rows z y.card) (sym at_new));
    }

  pub entered_stands : (shelf' : List ℕ) (index' : List Row) (cards' : List (Entry M)) → used b + length bs ≤ length shelf → size b < length index → 128 * size b + 128 ≤ length cards
      → shelf' ≡ overwritten shelf (used b) bs → index' ≡ set index (size b) (row_of d (size b) false) → cards' ≡ overwritten cards (128 * size b) (card_rows z card) → Stands rules d shelf' index' cards'
  entered_stands shelf' index' cards' shelf-room index-room cards-room es ei ec =
      record { book = facts'; shelf_has = shelved' shelf' shelf-room es; index_has = indexed' index' index-room ei; cards_have = held' cards' cards-room ec }

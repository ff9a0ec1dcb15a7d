-- What is read off tables that stand for a book. Assumes nothing.
use Rattle.std.proofs.Common.{◌≡◌, ℕ, ◌*◌, ◌<◌, ◌≤◌, true, false, List, [], length, get_or, take, drop, replicate, is_ok, sym, ap, ◌∙◌, subst, ⊎_elim, arith}
use Rattle.std.proofs.lemmas.List.{get_or_past, get_or-replicate}
use Rattle.std.proofs.lemmas.Bool.{cases_lt, both_ways, and_from, cond-true}
use Rattle.costs.specs.Entries.{entry_ops}
use Rattle.costs.specs.declared.entry.Entry.{Entry}
use Rattle.networks.specs.Rows.{list_at}
use Rattle.sheets.specs.Refusals.{framing_of, check_of}
use Rattle.sheets.specs.Sheets.{Sheet, sheet_of}
use Rattle.library.specs.Books.{Rules, Block, Book, no_block, size, at, inputs_of, face_of, instance_of, Stale}
use Rattle.library.specs.Checks.{blocks_of, faces_beneath, cards_beneath}
use Rattle.library.specs.Marks.{Counted, kept_bytes, kept_names}
use Rattle.library.specs.Memory.{BookFacts, Stands}
use Rattle.library.specs.Tables.{no_row, row_at, row_of, kept_list, kept_face, sheet_bytes}
use Rattle.library.specs.declared.row.Row.{Row}
use Rattle.library.proofs.Rows.{list_off}

-- past the last block
pub at_past : {M : Type 0} (b : Book M) (n : ℕ) → size b ≤ n → at b n ≡ no_block
at_past b n above = get_or_past b.blocks n no_block above

-- what has an input event is a block
pub has_input : {M : Type 0} (b : Book M) (n f : ℕ) → f < inputs_of b n → n < size b
has_input {M = M} b n f low = ⊎_elim (λ h. h) (λ above. absurd (omega (arith, low, ap (λ (x : Block M). x.sheet.face.inputs) (at_past b n above)))) (cases_lt n (size b))

module _ {M : Type 0} {rules : Rules M} {b : Book M} (facts : BookFacts rules b) where
  -- a list has at most 16 entries, and a number past the eighth has none
  pub card_short : (n e : ℕ) → n < size b → length ((at b n).card e) ≤ 16
  card_short n e lt =
      ⊎_elim (λ low. ((facts.blocks n lt).sized e low).1) (λ high. omega (arith, ap length ((facts.blocks n lt).none e high))) (cases_lt e (inputs_of b n))

  pub card_none : (n e : ℕ) → n < size b → 8 ≤ e → (at b n).card e ≡ []
  card_none n e lt high = (facts.blocks n lt).none e (omega (arith, high, (facts.blocks n lt).form.few_inputs))

module _ {M : Type 0} {rules : Rules M} {b : Book M} {shelf : List ℕ} {index : List Row} {cards : List (Entry M)} (st : Stands rules b shelf index cards) where
  -- the row of a block
  pub row_is : (n : ℕ) → n < size b → row_at index n ≡ row_of b n (row_at index n).old
  row_is n lt = st.index_has.rows n lt

  lens_none : (e : ℕ) → get_or no_row.lens e 0 ≡ 0
  lens_none e = ⊎_elim (λ low. get_or-replicate 8 e 0 0 low) (λ high. get_or_past (replicate 8 0) e 0 high) (cases_lt e 8)

  -- the list that the tables hold is the one on the book's card
  pub list_held : (n e : ℕ) → n < size b → kept_list index cards n e ≡ (at b n).card e
  list_held n e lt =
      ap (λ (r : Row). list_at (drop (128 * n) cards) r.lens e) (row_is n lt)
      ∙ list_off (entry_ops rules.ops).zero (at b n).card (drop (128 * n) cards) (st.cards_have.rows n lt) (λ f. card_short st.book n f lt) (λ f. card_none st.book n f lt) e

  -- also past the last block, where there is none
  pub list_is : (n e : ℕ) → kept_list index cards n e ≡ (at b n).card e
  list_is n e =
      ⊎_elim (list_held n e)
      (λ above. ap (λ (r : Row). list_at (drop (128 * n) cards) r.lens e) (st.index_has.unused n above) ∙ ap (λ l. take l (drop (16 * e) (drop (128 * n) cards))) (lens_none e)
      ∙ sym (ap (λ (x : Block M). x.card e) (at_past b n above)))
      (cases_lt n (size b))

  pub face_is : (n : ℕ) → kept_face index n ≡ face_of b n
  face_is n =
      ⊎_elim (λ lt. ap (λ (r : Row). record { inputs = r.inputs; outputs = r.outputs }) (row_is n lt))
      (λ above. ap (λ (r : Row). record { inputs = r.inputs; outputs = r.outputs }) (st.index_has.unused n above)
      ∙ sym (ap (λ (x : Block M). record { inputs = x.sheet.face.inputs; outputs = x.sheet.face.outputs }) (at_past b n above)))
      (cases_lt n (size b))

  -- the interfaces and cards beneath a sheet, as the tables hold them
  pub faces_are : (s : Sheet) → (λ (i : ℕ). kept_face index (instance_of s i)) ≡ faces_beneath (blocks_of b) s
  faces_are s = λ k i. face_is (instance_of s i) k

  pub cards_are : (s : Sheet) → (λ (i f : ℕ). kept_list index cards (instance_of s i) f) ≡ cards_beneath (blocks_of b) s
  cards_are s = λ k i f. list_is (instance_of s i) f k

  -- how many blocks the rows show
  pub counted_is : (r : ℕ) → Counted index r → r ≡ size b
  counted_is r k =
      ⊎_elim (λ lt. absurd (both_ways (row_at index r).used (k.unused (omega (arith, st.book.few))) (ap (λ (x : Row). x.used) (row_is r lt))))
      (λ ge. ⊎_elim (λ lt. absurd (both_ways (row_at index (size b)).used (ap (λ (x : Row). x.used) (st.index_has.unused (size b) (omega arith))) (k.used (size b) lt))) (λ le. omega arith) (cases_lt (size b) r))
      (cases_lt r (size b))

  -- the bytes of a block's sheet
  pub bytes_are : (n : ℕ) → n < size b → kept_bytes shelf (row_at index n) ≡ sheet_bytes b shelf n
  bytes_are n lt = ap (kept_bytes shelf) (row_is n lt)

  pub framed_kept : (n : ℕ) → n < size b → is_ok (framing_of (kept_bytes shelf (row_at index n))) ≡ true
  framed_kept n lt = subst (λ bs. is_ok (framing_of bs) ≡ true) (sym (bytes_are n lt)) (st.shelf_has.framed n lt)

  pub right_kept : (n : ℕ) → n < size b → is_ok (check_of rules.wide (kept_bytes shelf (row_at index n))) ≡ true
  right_kept n lt = subst (λ bs. is_ok (check_of rules.wide bs) ≡ true) (sym (bytes_are n lt)) (st.shelf_has.right n lt)

  pub says_kept : (n : ℕ) → n < size b → sheet_of rules.wide (kept_bytes shelf (row_at index n)) ≡ (at b n).sheet
  says_kept n lt = ap (sheet_of rules.wide) (bytes_are n lt) ∙ st.shelf_has.says n lt

  -- what a kept sheet names
  pub names_are : (n : ℕ) → n < size b → kept_names rules.wide shelf (row_at index n) ≡ (at b n).sheet.instances
  names_are n lt =
      cond-true _ _ _ (and_from _ _ (framed_kept n lt) (right_kept n lt)) ∙ ap (λ (s : Sheet). s.instances) (says_kept n lt)

  pub book_current : (n : ℕ) → n < size b → (row_at index n).old ≡ false → Stale b n → ⊥
  book_current n lt e stale = both_ways (row_at index n).old e (st.index_has.stale n lt stale)

-- The book after a rework, from what the code found over the tables. Assumes nothing.
use Rattle.std.proofs.Common.{◌≡◌, ℕ, ◌*◌, ◌<◌, ◌≤◌, true, false, List, set, sym, refl, ap, ◌∙◌, subst, arith}
use Rattle.costs.specs.Amounts.{Lawful}
use Rattle.costs.specs.Entries.{entry_ops}
use Rattle.costs.specs.Lists.{Sized, Sound as SoundReducer}
use Rattle.costs.specs.declared.entry.Entry.{Entry}
use Rattle.sheets.specs.Sheets.{Sheet, sheet_of}
use Rattle.library.specs.Books.{Rules, Block, Book, size, at, start_of, worked_block, with_work}
use Rattle.library.specs.Checks.{Lent, blocks_of, Verdict, fine}
use Rattle.library.specs.Law.{GoesOn}
use Rattle.library.specs.Marks.{Counted, kept_bytes}
use Rattle.library.specs.Memory.{Stands}
use Rattle.library.specs.Refusals.{by_library}
use Rattle.library.specs.Steps.{Renewing, Reworking, rework, done, refused, no_block, stays, reworks}
use Rattle.library.specs.Tables.{row_at, row_of, lens_of, card_rows, overwritten, blocks_kept}
use Rattle.library.specs.declared.row.Row.{Row}
use Rattle.library.proofs.Answering.{goes_same}
use Rattle.library.proofs.Books.{at_changed, start_changed}
use Rattle.library.proofs.Placing.{mark_stale, renewing_to}
use Rattle.library.proofs.Reading.{counted_is, row_is, says_kept, book_current}
use Rattle.library.proofs.Reworking.{reworked_stands}
use Rattle.library.proofs.Soundness.{stands_sound}

module _ {M : Type 0} (rules : Rules M) (laws : Lawful rules.ops) (sound : SoundReducer rules.ops rules.gives) (shelf : List ℕ) (index : List Row) (cards : List (Entry M)) (lent : Lent)
    (count : ℕ) (counted : Counted index count) (n : ℕ) where
  -- the kept sheet of row n
  abbrev kept_sheet : Sheet
  kept_sheet = sheet_of rules.wide (kept_bytes shelf (row_at index n))

  module _ (b : Book M) (st : Stands rules b shelf index cards) where
    is_size : count ≡ size b
    is_size = counted_is st count counted

    in_book : n < count → n < size b
    in_book lt = omega (arith, lt, is_size)

  -- a rework of a number that is no block, and of a block whose card is current
  pub rework_missing : count ≤ n → GoesOn rules (rework n) lent (refused (by_library 3 n)) shelf index cards shelf index cards
  rework_missing high = goes_same rules laws sound shelf index cards lent (rework n) (refused (by_library 3 n)) (λ b st. no_block n lent (omega (arith, high, is_size b st)))

  pub rework_current : n < count → (row_at index n).old ≡ false → GoesOn rules (rework n) lent done shelf index cards shelf index cards
  rework_current lt new = goes_same rules laws sound shelf index cards lent (rework n) done (λ b st. stays n lent (in_book b st lt, book_current st n (in_book b st lt) new))

  module _ (lt : n < count) (old : (row_at index n).old ≡ true) where
    renewing_book : (w : Verdict (ℕ → List (Entry M))) → Renewing rules (blocks_kept count index cards) kept_sheet lent w → (b : Book M) (st : Stands rules b shelf index cards) → Reworking rules b lent n w
    renewing_book w h b st =
        subst (λ s. Renewing rules (blocks_of b) s lent w) (says_kept st n (in_book b st lt))
        (renewing_to st kept_sheet lent w (subst (λ k. Renewing rules (blocks_kept k index cards) kept_sheet lent w) (is_size b st) h))

    -- a card worked again, and the tables with its row and its rows
    module _ (card : ℕ → List (Entry M)) (h : Renewing rules (blocks_kept count index cards) kept_sheet lent (fine card)) (sized : (e : ℕ) → e < kept_sheet.face.inputs → Sized (card e))
        (index' : List Row) (cards' : List (Entry M))
        (ei : index' ≡ set index n (record { used = (row_at index n).used; start = (row_at index n).start; len = (row_at index n).len; inputs = (row_at index n).inputs; outputs = (row_at index n).outputs; lens = lens_of card; old = false }))
        (ec : cards' ≡ overwritten cards (128 * n) (card_rows (entry_ops rules.ops).zero card)) where
      module _ (b : Book M) (st : Stands rules b shelf index cards) where
        low : n < size b
        low = in_book b st lt

        found : Reworking rules b lent n (fine card)
        found = renewing_book (fine card) h b st

        abbrev x : Block M
        x = worked_block (at b n) card b.clock

        abbrev d : Book M
        d = with_work b n card

        row_new : record { used = true; start = start_of b n; len = (at b n).bytes; inputs = (at b n).sheet.face.inputs; outputs = (at b n).sheet.face.outputs; lens = lens_of card; old = false } ≡ row_of d n false
        row_new =
            ap (λ k. record { used = true; start = k; len = x.bytes; inputs = x.sheet.face.inputs; outputs = x.sheet.face.outputs; lens = lens_of x.card; old = false }) (sym (start_changed b n x low refl n))
            ∙ sym (ap (λ (y : Block M). record { used = true; start = start_of d n; len = y.bytes; inputs = y.sheet.face.inputs; outputs = y.sheet.face.outputs; lens = lens_of y.card; old = false }) (at_changed b n x low))

        pub reworked_index : index' ≡ set index n (row_of d n false)
        reworked_index =
            ei ∙ ap (λ (r : Row). set index n (record { used = r.used; start = r.start; len = r.len; inputs = r.inputs; outputs = r.outputs; lens = lens_of card; old = false })) (row_is st n low) ∙ ap (set index n) row_new

        now_stands : Stands rules d shelf index' cards'
        now_stands =
            reworked_stands n low (mark_stale st n old) st found.0 card found.1.1 (λ e l. sized e (subst (λ (s : Sheet). e < s.face.inputs) (sym (says_kept st n low)) l)) index' reworked_index cards' ec

      pub rework_done : GoesOn rules (rework n) lent done shelf index cards shelf index' cards'
      rework_done b st =
          (d b st, (reworks n lent card (low b st) (mark_stale st n old) (found b st), (now_stands b st, stands_sound rules laws sound (d b st) shelf index' cards' (now_stands b st))))

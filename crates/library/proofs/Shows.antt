-- What a look at a card answers, from what its code found in the tables. Assumes nothing.
use Rattle.std.proofs.Common.{◌≡◌, ℕ, ◌+◌, ◌*◌, ◌<◌, ◌≤◌, true, false, List, length, get_or, take, drop, sym, refl, ap, ◌∙◌, inl, inr, arith}
use Rattle.std.proofs.lemmas.List.{drop-drop, take-append-le}
use Rattle.costs.specs.Entries.{entry_ops}
use Rattle.costs.specs.declared.entry.Entry.{Entry}
use Rattle.library.specs.Books.{Rules, Book, size, at, inputs_of, Stale}
use Rattle.library.specs.Checks.{Lent, turned, fine}
use Rattle.library.specs.Marks.{Counted}
use Rattle.library.specs.Memory.{Stands}
use Rattle.library.specs.Refusals.{by_library}
use Rattle.library.specs.Steps.{Showing}
use Rattle.library.specs.Tables.{row_at, padded, overwritten}
use Rattle.library.specs.declared.row.Row.{Row}
use Rattle.library.proofs.Parts.{part_take}
use Rattle.library.proofs.Reading.{counted_is, row_is, book_current, card_short}
use Rattle.library.proofs.Rows.{event_rows, get_or_lens_of, length_padded, take_padded}

module _ {M : Type 0} (rules : Rules M) (index : List Row) (cards out : List (Entry M)) (n e rows : ℕ) {b : Book M} {shelf : List ℕ} (st : Stands rules b shelf index cards) (r : ℕ) (count : Counted index r) where
  abbrev lent : Lent
  lent = record { rows = rows; out = length out }

  pub card_missing : r ≤ n → Showing rules b lent n e (turned (by_library 3 n))
  card_missing above = inl (record { holds = omega (arith, counted_is st r count); is = refl })

  module _ (below : n < r) (row : Row) (is : row ≡ row_at index n) where
    in_book : n < size b
    in_book = omega (arith, counted_is st r count)

    pub card_stale : row.old ≡ true → Showing rules b lent n e (turned (by_library 4 n))
    card_stale old = inr (in_book, inl (record { holds = st.index_has.marked n in_book (ap (λ (x : Row). x.old) (sym is) ∙ old); is = refl }))

    module _ (current : row.old ≡ false) where
      not_stale : Stale b n → ⊥
      not_stale = book_current st n in_book (ap (λ (x : Row). x.old) (sym is) ∙ current)

      inputs : row.inputs ≡ inputs_of b n
      inputs = ap (λ (x : Row). x.inputs) (is ∙ row_is st n in_book)

      pub card_unnamed : row.inputs ≤ e → Showing rules b lent n e (turned (by_library 5 e))
      card_unnamed above = inr (in_book, inr (not_stale, inl (record { holds = omega (arith, inputs); is = refl })))

      module _ (event : e < row.inputs) where
        in_sheet : e < inputs_of b n
        in_sheet = omega (arith, inputs)

        pub card_cramped : length out < 16 → Showing rules b lent n e (turned (by_library 7 5))
        card_cramped short = inr (in_book, inr (not_stale, inr (in_sheet, inl (record { holds = short; is = refl }))))

        module _ (room : 16 ≤ length out) (out' : List (Entry M)) (es : out' ≡ overwritten out 0 (take 16 (drop (128 * n + 16 * e) cards))) (l : ℕ) (len : l ≡ get_or row.lens e 0) where
          abbrev zero' : Entry M
          zero' = (entry_ops rules.ops).zero

          eight : e < 8
          eight = omega (arith, in_sheet, (st.book.blocks n in_book).form.few_inputs)

          copied : take 16 (drop (128 * n + 16 * e) cards) ≡ padded zero' ((at b n).card e)
          copied =
              ap (take 16) (sym (drop-drop (16 * e) (128 * n) cards)) ∙ sym (part_take (drop (128 * n) cards) (16 * e) 16 128 (omega (arith, eight)))
              ∙ ap (λ xs. take 16 (drop (16 * e) xs)) (st.cards_have.rows n in_book) ∙ event_rows zero' (at b n).card e eight

          -- the caller's first 16 rows hold the event's
          pub card_copied : out' ≡ overwritten out 0 (padded zero' ((at b n).card e))
          card_copied = es ∙ ap (overwritten out 0) copied

          pub card_length : l ≡ length ((at b n).card e)
          card_length = len ∙ ap (λ (x : Row). get_or x.lens e 0) (is ∙ row_is st n in_book) ∙ get_or_lens_of zero' (at b n).card e eight

          card_list : take l out' ≡ (at b n).card e
          card_list =
              ap (λ k. take k out') card_length ∙ ap (take (length ((at b n).card e))) card_copied
              ∙ take-append-le (length ((at b n).card e)) (padded zero' ((at b n).card e)) (drop (0 + length (padded zero' ((at b n).card e))) out) (omega (arith, length_padded zero' ((at b n).card e), card_short st.book n e in_book))
              ∙ take_padded zero' ((at b n).card e) (card_short st.book n e in_book)

          pub card_shown : Showing rules b lent n e (fine (take l out'))
          card_shown = (in_book, (not_stale, (in_sheet, (room, card_list))))

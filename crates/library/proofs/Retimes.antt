-- What a retime does, from what its code found in the tables. Assumes nothing.
use Rattle.std.proofs.Common.{◌≡◌, ℕ, ◌+◌, ◌<◌, ◌≤◌, List, length, drop, Some, None, Option, refl, ap, ◌∙◌, subst, inl, inr, arith, MatchOption}
use Rattle.std.proofs.lemmas.List.{length-take, length-drop}
use Rattle.std.proofs.lemmas.Bool.{and_from}
use Rattle.costs.specs.declared.entry.Entry.{Entry}
use Rattle.sheets.specs.Form.{AmountAt}
use Rattle.sheets.specs.Sheets.{Sheet, sheet_of}
use Rattle.library.specs.Books.{Rules, Book, size, at, start_of, with_retime}
use Rattle.library.specs.Checks.{turned, fine}
use Rattle.library.specs.Kept.{KeptAmount, NoAmount}
use Rattle.library.specs.Marks.{Counted, Marked, kept_bytes}
use Rattle.library.specs.Memory.{Stands}
use Rattle.library.specs.Refusals.{by_library}
use Rattle.library.specs.Steps.{Retiming}
use Rattle.library.specs.Tables.{row_at, sheet_bytes, overwritten, Remarked, Replaced}
use Rattle.library.specs.declared.row.Row.{Row}
use Rattle.library.proofs.Reading.{counted_is, bytes_are, row_is, framed_kept, right_kept, says_kept}
use Rattle.library.proofs.Retiming.{retimed_rows, retimed_stands}

-- what stands within the bytes of a row stands within the shelf
pub kept_within : (wide : ℕ) (shelf : List ℕ) (row : Row) (p : ℕ) → 1 ≤ wide → p + wide ≤ length (kept_bytes shelf row) → row.start + p + wide ≤ length shelf
kept_within wide shelf row p some within = omega (arith, length-take row.len (drop row.start shelf), length-drop row.start shelf)

kept_place : (wide : ℕ) (shelf : List ℕ) (row : Row) (k : ℕ) → 1 ≤ wide → k < length (sheet_of wide (kept_bytes shelf row)).amounts → (o : Option ℕ)
    → MatchOption o (length (sheet_of wide (kept_bytes shelf row)).amounts ≤ k) (AmountAt wide (kept_bytes shelf row) k) → MatchOption o (NoAmount wide shelf row k) (KeptAmount wide shelf row k)
kept_place wide shelf row k some low None over = absurd (omega arith)
kept_place wide shelf row k some low (Some p) at_p = record { named = low; stands = at_p; within = kept_within wide shelf row p some at_p.within }

module _ {M : Type 0} (rules : Rules M) (shelf : List ℕ) (index : List Row) (n k : ℕ) (new : List ℕ) {b : Book M} {cards : List (Entry M)} (st : Stands rules b shelf index cards) where
  pub retime_width : (length new ≡ rules.wide → ⊥) → Retiming rules b n k new (turned (by_library 2 (length new)))
  retime_width other = inl (record { holds = other; is = refl })

  module _ (wide : length new ≡ rules.wide) (r : ℕ) (count : Counted index r) where
    pub retime_missing : r ≤ n → Retiming rules b n k new (turned (by_library 3 n))
    retime_missing above = inr (wide, inl (record { holds = omega (arith, counted_is st r count); is = refl }))

    module _ (below : n < r) (row : Row) (is : row ≡ row_at index n) where
      in_book : n < size b
      in_book = omega (arith, counted_is st r count)

      same_sheet : sheet_of rules.wide (kept_bytes shelf row) ≡ (at b n).sheet
      same_sheet = ap (λ x. sheet_of rules.wide (kept_bytes shelf x)) is ∙ says_kept st n in_book

      same_amounts : length (sheet_of rules.wide (kept_bytes shelf row)).amounts ≡ length (at b n).sheet.amounts
      same_amounts = ap (λ (s : Sheet). length s.amounts) same_sheet

      pub retime_unnamed : NoAmount rules.wide shelf row k → Retiming rules b n k new (turned (by_library 5 k))
      retime_unnamed none =
          let over = subst (λ x. NoAmount rules.wide shelf x k) is none (and_from _ _ (framed_kept st n in_book) (right_kept st n in_book)) in
          inr (wide, inr (in_book, inl (record { holds = omega (arith, over, ap (λ (s : Sheet). length s.amounts) (says_kept st n in_book)); is = refl })))

      module _ (p : ℕ) (has : KeptAmount rules.wide shelf row k p) where
        pub retime_done : Retiming rules b n k new (fine tt)
        retime_done = (wide, (in_book, (omega (arith, has.named, same_amounts), refl)))

        stands : AmountAt rules.wide (sheet_bytes b shelf n) k p
        stands = subst (λ bs. AmountAt rules.wide bs k p) (ap (kept_bytes shelf) is ∙ bytes_are st n in_book) has.stands

        module _ (index' : List Row) (mk : Marked rules.wide shelf n r index index') where
          marked : Marked rules.wide shelf n (size b) index index'
          marked = subst (λ m. Marked rules.wide shelf n m index index') (counted_is st r count) mk

          pub retime_index : Remarked b n index index'
          retime_index = retimed_rows n k new in_book wide st p stands index' marked

          module _ (shelf' : List ℕ) (es : shelf' ≡ overwritten shelf (row.start + p) new) where
            written : shelf' ≡ overwritten shelf (start_of b n + p) new
            written = es ∙ ap (λ (x : Row). overwritten shelf (x.start + p) new) (is ∙ row_is st n in_book)

            pub retime_shelf : Replaced rules.wide b n k new shelf shelf'
            retime_shelf = record { place = p; stands = stands; is = written }

            pub retime_stands : Stands rules (with_retime b n k new) shelf' index' cards
            retime_stands = retimed_stands n k new in_book wide st p stands index' marked shelf' written

-- The clauses of preview from what its code found. Assumes nothing.
use Rattle.std.proofs.Common.{◌≡◌, ℕ, ◌≤◌, false, List, take, is_ok, Ok, Err, Result, sym, refl, ap, ◌∙◌, subst, inl, inr, arith, MatchResult}
use Rattle.costs.specs.Amounts.{Lawful}
use Rattle.costs.specs.Entries.{entry_ops}
use Rattle.costs.specs.Lists.{Sound as SoundReducer}
use Rattle.costs.specs.declared.entry.Entry.{Entry}
use Rattle.networks.specs.Networks.{Fit}
use Rattle.networks.specs.Rows.{list_at}
use Rattle.sheets.specs.Sheets.{Sheet, sheet_of}
use Rattle.library.specs.Books.{Rules, Book}
use Rattle.library.specs.Checks.{Lent, Blocks, turned, fine, Then, Never, FirstAt, Framed, Right, cards_beneath, network, CardOf, Working}
use Rattle.library.specs.Law.{GoesOn}
use Rattle.library.specs.Marks.{Counted}
use Rattle.library.specs.Memory.{Stands}
use Rattle.library.specs.Placing.{Placeable, Unplaced, CardIn, Previewed}
use Rattle.library.specs.Refusals.{Told, told, by_library}
use Rattle.library.specs.Replies.{verdict, reply}
use Rattle.library.specs.Steps.{PreviewLacks, Previewing, preview, previewed, refused, no_preview, previews}
use Rattle.library.specs.Tables.{lens_of, card_rows, overwritten, blocks_kept}
use Rattle.library.specs.declared.refusal.Refusal.{Refusal}
use Rattle.library.specs.declared.row.Row.{Row}
use Rattle.library.proofs.Answering.{goes_same, preview_book}
use Rattle.library.proofs.Entered.{placing_unplaced, placing_works, fit_any}
use Rattle.library.proofs.Forming.{off_card}
use Rattle.library.proofs.Parts.{part_written}
use Rattle.library.proofs.Rows.{length_card_rows}

-- a card worked, and written into the first rows
pub previewed_from : {M : Type 0} (rules : Rules M) (v : Blocks M) (s : Sheet) (lent : Lent) (before out rows : List (Entry M)) (lens : List ℕ) → s.face.inputs ≤ 8 → Never (PreviewLacks lent)
    → CardIn (entry_ops rules.ops).zero s.face.inputs rows lens → (Fit (network v s) (cards_beneath v s) → CardOf rules v s (list_at rows lens)) → out ≡ overwritten before 0 (take 128 rows)
    → Previewed rules v s lent before out lens
previewed_from rules v s lent before out rows lens few room in' worked is =
    let z = (entry_ops rules.ops).zero in
    let card = list_at rows lens in
    let whole : out ≡ overwritten before 0 (card_rows z card) = is ∙ ap (overwritten before 0) in'.front in
    let front : take 128 out ≡ card_rows z card = ap (take 128) whole ∙ part_written before 0 (card_rows z card) (omega arith) 128 (sym (length_card_rows z card)) in
    let same : list_at out lens ≡ card = off_card z card s.face.inputs few in'.sized in'.none out lens in'.lengths front in
    record {
      room = room;
      worked = λ fit. subst (CardOf rules v s) (sym same) (worked fit);
      rows = whole ∙ ap (λ c. overwritten before 0 (card_rows z c)) (sym same);
      lengths = in'.lengths ∙ ap lens_of (sym same);
    }

module _ {M : Type 0} (rules : Rules M) (laws : Lawful rules.ops) (sound : SoundReducer rules.ops rules.gives) (shelf : List ℕ) (index : List Row) (cards : List (Entry M)) (lent : Lent) (bs : List ℕ) (framed : Framed bs) where
  -- a sheet of another width
  pub wide_answer : (w : ℕ) → Right w bs → (w ≡ rules.wide → ⊥) → (b : Book M) → Stands rules b shelf index cards → Previewing rules b lent w bs (turned (by_library 2 w))
  wide_answer w right ne b st = inr (framed, inr (right, inl (record { holds = ne; is = refl })))

  pub no_goes : (w : ℕ) (t : Told) → ((b : Book M) → Stands rules b shelf index cards → Previewing rules b lent w bs (turned t)) → GoesOn rules (preview w bs) lent (refused t) shelf index cards shelf index cards
  no_goes w t h = goes_same rules laws sound shelf index cards lent (preview w bs) (refused t) (λ b st. no_preview w bs lent t (h b st))

  module _ (n : ℕ) (counted : Counted index n) where
    abbrev v : Blocks M
    v = blocks_kept n index cards

    -- one that is not placed
    unplaced_at : (t : Told) → Right rules.wide bs → Unplaced v rules.wide bs t → (b : Book M) → Stands rules b shelf index cards → Previewing rules b lent rules.wide bs (turned t)
    unplaced_at t right h = preview_book rules laws sound shelf index cards lent n counted rules.wide bs (turned t) (inr (framed, inr (right, inr (refl, placing_unplaced rules v bs (PreviewLacks lent) t h))))

    pub unplaced_answer : (t : Told) (w : ℕ) → w ≡ rules.wide → Right w bs → Unplaced v w bs t → (b : Book M) → Stands rules b shelf index cards → Previewing rules b lent w bs (turned t)
    unplaced_answer t w is =
        subst (λ x. Right x bs → Unplaced v x bs t → (b : Book M) → Stands rules b shelf index cards → Previewing rules b lent x bs (turned t)) (sym is) (unplaced_at t)

    -- one that is, whatever was answered
    module _ (before out : List (Entry M)) where
      abbrev pub PreviewCase : ℕ → Result (List ℕ) Refusal → Type 0
      PreviewCase w r =
          MatchResult r (Previewed rules (blocks_kept 0 index cards) (sheet_of w bs) lent before out)
          (λ e. Fit (network (blocks_kept 0 index cards) (sheet_of w bs)) (cards_beneath (blocks_kept 0 index cards) (sheet_of w bs))
          → Then (FirstAt 7 (PreviewLacks lent)) (Never (PreviewLacks lent)) (Working rules (blocks_kept 0 index cards) (sheet_of w bs)) (turned (told e)))

      placed_at : (r : Result (List ℕ) Refusal) → Right rules.wide bs → Placeable v (sheet_of rules.wide bs) → PreviewCase rules.wide r
          → (b : Book M) → Stands rules b shelf index cards → Previewing rules b lent rules.wide bs (verdict (list_at out) r)
      placed_at (Ok lens) right p h b st =
          preview_book rules laws sound shelf index cards lent n counted rules.wide bs (fine (list_at out lens))
          (framed, (right, (refl, placing_works rules v bs (PreviewLacks lent) p h.room (fine (list_at out lens)) (h.worked (fit_any st 0 (sheet_of rules.wide bs)))))) b st
      placed_at (Err e) right p h b st =
          preview_book rules laws sound shelf index cards lent n counted rules.wide bs (turned (told e))
          (inr (framed, inr (right, inr (refl, inr (p.there, inr (p.current, inr (p.named, h (fit_any st 0 (sheet_of rules.wide bs))))))))) b st

      pub placed_answer : (r : Result (List ℕ) Refusal) (w : ℕ) → w ≡ rules.wide → Right w bs → Placeable v (sheet_of w bs) → PreviewCase w r
          → (b : Book M) → Stands rules b shelf index cards → Previewing rules b lent w bs (verdict (list_at out) r)
      placed_answer r w is =
          subst (λ x. Right x bs → Placeable v (sheet_of x bs) → PreviewCase x r → (b : Book M) → Stands rules b shelf index cards → Previewing rules b lent x bs (verdict (list_at out) r)) (sym is) (placed_at r)

  -- the book stays, whatever was answered
  pub preview_goes : (w : ℕ) (out : List (Entry M)) (r : Result (List ℕ) Refusal) → ((b : Book M) → Stands rules b shelf index cards → Previewing rules b lent w bs (verdict (list_at out) r))
      → GoesOn rules (preview w bs) lent (reply (λ lens. previewed (list_at out lens)) r) shelf index cards shelf index cards
  preview_goes w out (Ok lens) h = goes_same rules laws sound shelf index cards lent (preview w bs) (previewed (list_at out lens)) (λ b st. previews w bs lent (list_at out lens) (h b st))
  preview_goes w out (Err e) h = no_goes w (told e) h

-- the caller's rows, whatever was answered
pub preview_rows : {M : Type 0} (rules : Rules M) (v : Blocks M) (s : Sheet) (lent : Lent) (before out : List (Entry M)) (Q : Refusal → Type 0) (r : Result (List ℕ) Refusal) → MatchResult r (Previewed rules v s lent before out) Q
    → (is_ok r ≡ false → out ≡ before)
    → MatchResult r (λ lens. (out ≡ overwritten before 0 (card_rows (entry_ops rules.ops).zero (list_at out lens))) × (lens ≡ lens_of (list_at out lens))) (λ _. out ≡ before)
preview_rows rules v s lent before out Q (Ok lens) h same = (h.rows, h.lengths)
preview_rows rules v s lent before out Q (Err e) h same = same refl

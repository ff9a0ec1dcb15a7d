-- The book after each call, from what its code found over the tables. Assumes nothing.
use Rattle.std.proofs.Common.{◌≡◌, ℕ, ◌+◌, ◌*◌, ◌<◌, true, false, List, length, set, sym, refl, ap, ◌∙◌, subst, ⊎_elim}
use Rattle.std.proofs.lemmas.Bool.{cases_lt}
use Rattle.costs.specs.Amounts.{Lawful}
use Rattle.costs.specs.Entries.{entry_ops}
use Rattle.costs.specs.Lists.{Sized, Sound as SoundReducer}
use Rattle.costs.specs.declared.entry.Entry.{Entry}
use Rattle.sheets.specs.Refusals.{framing_of, check_of}
use Rattle.sheets.specs.Sheets.{sheet_of}
use Rattle.library.specs.Books.{Rules, Block, Book, size, used, start_of, with_block}
use Rattle.library.specs.Checks.{Lent, blocks_of, Verdict, fine, Then, Never, Plainly, Bad, Framed, Right}
use Rattle.library.specs.Law.{GoesOn}
use Rattle.library.specs.Marks.{Counted, kept_end}
use Rattle.library.specs.Memory.{Stands}
use Rattle.library.specs.Steps.{EnterLacks, PreviewLacks, Placing, Entering, Previewing, Ask, enter, Reply, entered, Step, enters}
use Rattle.library.specs.Tables.{row_of, lens_of, card_rows, overwritten, blocks_kept, sizes_of}
use Rattle.library.specs.declared.row.Row.{Row}
use Rattle.library.proofs.Entering.{entered_stands}
use Rattle.library.proofs.Books.{at_added, start_last}
use Rattle.library.proofs.Placing.{then_as, placing_to, end_is}
use Rattle.library.proofs.Reading.{counted_is}
use Rattle.library.proofs.Soundness.{stands_sound}

module _ {M : Type 0} (rules : Rules M) (laws : Lawful rules.ops) (sound : SoundReducer rules.ops rules.gives) (shelf : List ℕ) (index : List Row) (cards : List (Entry M)) (lent : Lent) where
  -- a call that changes nothing
  pub goes_same : (ask : Ask) (reply : Reply M) → ((b : Book M) → Stands rules b shelf index cards → Step rules (sizes_of shelf index cards) b ask lent reply b) → GoesOn rules ask lent reply shelf index cards shelf index cards
  goes_same ask reply step b st = (b, (step b st, (st, stands_sound rules laws sound b shelf index cards st)))

  module _ (count : ℕ) (counted : Counted index count) where
    is_size : (b : Book M) → Stands rules b shelf index cards → count ≡ size b
    is_size b st = counted_is st count counted

    -- checks 3 to 10 over the tables are those over the book
    pub placing_book : (bs : List ℕ) (Lacks : ℕ → Type 0) (w : Verdict (ℕ → List (Entry M))) → Placing rules (blocks_kept count index cards) bs Lacks w → (b : Book M) → Stands rules b shelf index cards → Placing rules (blocks_of b) bs Lacks w
    placing_book bs Lacks w h b st = placing_to st bs Lacks w (subst (λ n. Placing rules (blocks_kept n index cards) bs Lacks w) (is_size b st) h)

    -- what enter found over the tables
    abbrev pub EnterFound : List ℕ → Verdict (ℕ → List (Entry M)) → Type 0
    EnterFound bs =
        Then (Bad (framing_of bs)) (Framed bs)
        (Then (Bad (check_of rules.wide bs)) (Right rules.wide bs)
        (Placing rules (blocks_kept count index cards) bs (EnterLacks (sizes_of shelf index cards) lent (kept_end index count) count (length bs))))

    pub enter_book : (bs : List ℕ) (w : Verdict (ℕ → List (Entry M))) → EnterFound bs w → (b : Book M) → Stands rules b shelf index cards → Entering rules b (sizes_of shelf index cards) lent bs w
    enter_book bs w h b st =
        then_as (λ t x. x) (λ x. x) (then_as (λ t x. x) (λ x. x) (λ u x.
        subst (λ e. Placing rules (blocks_of b) bs (EnterLacks (sizes_of shelf index cards) lent e (size b) (length bs)) u) (ap (kept_end index) refl ∙ end_is st)
        (placing_to st bs (EnterLacks (sizes_of shelf index cards) lent (kept_end index (size b)) (size b) (length bs)) u
        (subst (λ n. Placing rules (blocks_kept n index cards) bs (EnterLacks (sizes_of shelf index cards) lent (kept_end index n) n (length bs)) u) (is_size b st) x)))) w h

    -- what preview found over the tables
    abbrev pub PreviewFound : ℕ → List ℕ → Verdict (ℕ → List (Entry M)) → Type 0
    PreviewFound w bs =
        Then (Bad (framing_of bs)) (Framed bs)
        (Then (Bad (check_of w bs)) (Right w bs)
        (Then (Plainly 2 w (w ≡ rules.wide → ⊥)) (w ≡ rules.wide)
        (Placing rules (blocks_kept count index cards) bs (PreviewLacks lent))))

    pub preview_book : (w : ℕ) (bs : List ℕ) (u : Verdict (ℕ → List (Entry M))) → PreviewFound w bs u → (b : Book M) → Stands rules b shelf index cards → Previewing rules b lent w bs u
    preview_book w bs u h b st =
        then_as (λ t x. x) (λ x. x) (then_as (λ t x. x) (λ x. x) (then_as (λ t x. x) (λ x. x) (λ y x. placing_book bs (PreviewLacks lent) y x b st))) u h

    -- an entered sheet, and the tables with its bytes, row and card
    module _ (bs : List ℕ) (card : ℕ → List (Entry M)) (h : EnterFound bs (fine card)) (sized : (e : ℕ) → e < (sheet_of rules.wide bs).face.inputs → Sized (card e))
        (shelf' : List ℕ) (index' : List Row) (cards' : List (Entry M)) (es : shelf' ≡ overwritten shelf (kept_end index count) bs)
        (ei : index' ≡ set index count (record { used = true; start = kept_end index count; len = length bs; inputs = (sheet_of rules.wide bs).face.inputs; outputs = (sheet_of rules.wide bs).face.outputs; lens = lens_of card; old = false }))
        (ec : cards' ≡ overwritten cards (128 * count) (card_rows (entry_ops rules.ops).zero card)) where
      module _ (b : Book M) (st : Stands rules b shelf index cards) where
        found : Entering rules b (sizes_of shelf index cards) lent bs (fine card)
        found = enter_book bs (fine card) h b st

        room : Never (EnterLacks (sizes_of shelf index cards) lent (used b) (size b) (length bs))
        room = found.1.1.1.1.1.0

        few : size b < 64
        few = ⊎_elim (λ l. l) (λ high. absurd (room 2 (EnterLacks.blocks high))) (cases_lt (size b) 64)

        abbrev d : Book M
        d = with_block b (sheet_of rules.wide bs) (length bs) card

        abbrev x : Block M
        x = record { sheet = sheet_of rules.wide bs; bytes = length bs; card = card; worked = b.clock; retimed = 0 }

        row_new : record { used = true; start = used b; len = length bs; inputs = (sheet_of rules.wide bs).face.inputs; outputs = (sheet_of rules.wide bs).face.outputs; lens = lens_of card; old = false } ≡ row_of d (size b) false
        row_new = sym (
            ap (λ (y : Block M). record { used = true; start = start_of d (size b); len = y.bytes; inputs = y.sheet.face.inputs; outputs = y.sheet.face.outputs; lens = lens_of y.card; old = false }) (at_added b x)
            ∙ ap (λ k. record { used = true; start = k; len = length bs; inputs = (sheet_of rules.wide bs).face.inputs; outputs = (sheet_of rules.wide bs).face.outputs; lens = lens_of card; old = false }) (start_last b x))

        pub entered_shelf : shelf' ≡ overwritten shelf (used b) bs
        entered_shelf = es ∙ ap (λ k. overwritten shelf k bs) (ap (kept_end index) (is_size b st) ∙ end_is st)

        pub entered_index : index' ≡ set index (size b) (row_of d (size b) false)
        entered_index =
            ei ∙ ap (λ k. set index k (record { used = true; start = kept_end index k; len = length bs; inputs = (sheet_of rules.wide bs).face.inputs; outputs = (sheet_of rules.wide bs).face.outputs; lens = lens_of card; old = false })) (is_size b st)
            ∙ ap (λ k. set index (size b) (record { used = true; start = k; len = length bs; inputs = (sheet_of rules.wide bs).face.inputs; outputs = (sheet_of rules.wide bs).face.outputs; lens = lens_of card; old = false })) (end_is st)
            ∙ ap (set index (size b)) row_new

        pub entered_cards : cards' ≡ overwritten cards (128 * size b) (card_rows (entry_ops rules.ops).zero card)
        entered_cards = ec ∙ ap (λ k. overwritten cards (128 * k) (card_rows (entry_ops rules.ops).zero card)) (is_size b st)

        now_stands : Stands rules d shelf' index' cards'
        now_stands =
            entered_stands st bs found.0 found.1.0 found.1.1.0 found.1.1.1.0 found.1.1.1.1.0 few card found.1.1.1.1.1.1 sized shelf' index' cards'
            (⊎_elim (λ low. absurd (room 1 (EnterLacks.shelf low))) (λ h. h) (cases_lt (length shelf) (used b + length bs)))
            (⊎_elim (λ l. l) (λ high. absurd (room 2 (EnterLacks.index high))) (cases_lt (size b) (length index)))
            (⊎_elim (λ low. absurd (room 3 (EnterLacks.cards low))) (λ h. h) (cases_lt (length cards) (128 * size b + 128)))
            entered_shelf entered_index entered_cards

      pub enter_done : GoesOn rules (enter bs) lent (entered count) shelf index cards shelf' index' cards'
      enter_done b st = (
        d b st,
        (
          subst (λ k. Step rules (sizes_of shelf index cards) b (enter bs) lent (entered k) (d b st)) (sym (is_size b st)) (enters bs lent card (found b st)),
          (now_stands b st, stands_sound rules laws sound (d b st) shelf' index' cards' (now_stands b st)),
        ),
      )

-- The clauses of enter, preview and rework from what their code found. Assumes nothing.
use Rattle.std.proofs.Common.{◌≡◌, ℕ, ◌*◌, ◌<◌, ◌≤◌, true, false, List, [], length, take, drop, set, is_ok, Ok, Err, Result, sym, refl, ap, ◌∙◌, subst, subst₂, inl, inr, ⊎_elim, arith, MatchResult}
use mathlib.Core.Path.{subst₃}
use Rattle.std.proofs.lemmas.List.{get_or-set_same}
use Rattle.std.proofs.lemmas.Bool.{cases_lt, false≢true}
use Rattle.costs.specs.Amounts.{Lawful}
use Rattle.costs.specs.Entries.{entry_ops}
use Rattle.costs.specs.Lists.{Sized, Sound as SoundReducer}
use Rattle.costs.specs.declared.entry.Entry.{Entry}
use Rattle.networks.specs.Networks.{network_of, Fit}
use Rattle.networks.specs.Rows.{list_at}
use Rattle.sheets.specs.Sheets.{Sheet, sheet_of}
use Rattle.sheets.specs.declared.words.Interface.{Interface}
use Rattle.library.specs.Books.{Rules, Block, Book, size, used, instance_of, with_block}
use Rattle.library.specs.Checks.{Lent, Blocks, Verdict, turned, fine, Never, First, Framed, Right, faces_beneath, cards_beneath, network, StopsBy, CardOf, Working}
use Rattle.library.specs.Law.{GoesOn, Sound}
use Rattle.library.specs.Marks.{kept_end}
use Rattle.library.specs.Memory.{Stands}
use Rattle.library.specs.Placing.{Unsheeted, Placeable, Unplaced, missing, behind, misnamed, CardIn, Kept, Turned, Entered}
use Rattle.library.specs.Refusals.{Told, told, by_library}
use Rattle.library.specs.Replies.{verdict, reply}
use Rattle.library.specs.Steps.{EnterLacks, Placing, Entering, enter, entered, refused, Step, no_entry}
use Rattle.library.specs.Tables.{no_row, row_at, row_of, lens_of, card_rows, overwritten, blocks_kept, kept_list, sizes_of}
use Rattle.library.specs.declared.refusal.Refusal.{Refusal}
use Rattle.library.specs.declared.row.Row.{Row}
use Rattle.library.proofs.Answering.{goes_same, EnterFound, enter_book, enter_done, entered_shelf, entered_index, entered_cards}
use Rattle.library.proofs.Parts.{part_written}
use Rattle.library.proofs.Reading.{at_past, has_input, faces_are, cards_are, counted_is}
use Rattle.library.proofs.Rooms.{room_index, room_cards}
use Rattle.library.proofs.Forming.{off_card}
use Rattle.library.proofs.Rows.{length_card_rows}
use Rattle.sheets.proofs.Forms.{form_of}

-- the chain of checks of a new sheet, from where it ends
module _ {M : Type 0} (rules : Rules M) (v : Blocks M) (bs : List ℕ) (Lacks : ℕ → Type 0) where
  pub placing_unplaced : (t : Told) → Unplaced v rules.wide bs t → Placing rules v bs Lacks (turned t)
  placing_unplaced t (missing h) = inl h
  placing_unplaced t (behind m h) = inr (m, inl h)
  placing_unplaced t (misnamed m c h) = inr (m, inr (c, inl h))

  module _ (p : Placeable v (sheet_of rules.wide bs)) where
    pub placing_lacks : (k : ℕ) → First Lacks k → Placing rules v bs Lacks (turned (by_library 7 k))
    placing_lacks k h = inr (p.there, inr (p.current, inr (p.named, inl (record { place = k; first = h; is = refl }))))

    pub placing_works : Never Lacks → (w : Verdict (ℕ → List (Entry M))) → Working rules v (sheet_of rules.wide bs) w → Placing rules v bs Lacks w
    placing_works none (turned t) h = inr (p.there, inr (p.current, inr (p.named, inr (none, h))))
    placing_works none (fine card) h = (p.there, (p.current, (p.named, (none, h))))

-- in tables that stand for a book, what lies beneath any sheet keeps the limits of every block
module _ {M : Type 0} {rules : Rules M} {b : Book M} {shelf : List ℕ} {index : List Row} {cards : List (Entry M)} (st : Stands rules b shelf index cards) (n : ℕ) (s : Sheet) where
  pub fit_any : Fit (network (blocks_kept n index cards) s) (cards_beneath (blocks_kept n index cards) s)
  fit_any =
      subst₂ (λ f c. Fit (network_of s f) c) (sym (faces_are st s)) (sym (cards_are st s))
      (record {
        narrow = λ i _.
            ⊎_elim (λ lt. (st.book.blocks (instance_of s i) lt).form.few_inputs)
            (λ above. omega (arith, ap (λ (x : Block M). x.sheet.face.inputs) (at_past b (instance_of s i) above))) (cases_lt (instance_of s i) (size b));
        sized = λ i f p. (st.book.blocks (instance_of s i) (has_input b (instance_of s i) f p.1)).sized f p.1;
      })

module _ {M : Type 0} (rules : Rules M) (laws : Lawful rules.ops) (sound : SoundReducer rules.ops rules.gives) (bs : List ℕ) (shelf : List ℕ) (index : List Row) (cards : List (Entry M)) (lent : Lent) where
  -- a sheet whose bytes are turned down
  module _ (t : Told) (h : Unsheeted rules.wide bs t) where
    pub bad_answer : (b : Book M) → Stands rules b shelf index cards → Entering rules b (sizes_of shelf index cards) lent bs (turned t)
    bad_answer b st = ⊎_elim (λ x. inl x) (λ x. inr (x.0, inl x.1)) h

    pub bad_book : GoesOn rules (enter bs) lent (refused t) shelf index cards shelf index cards
    bad_book = goes_same rules laws sound shelf index cards lent (enter bs) (refused t) (λ b st. no_entry bs lent t (bad_answer b st))

  module _ (framed : Framed bs) (right : Right rules.wide bs) where
    -- a checked sheet that is turned down
    module _ (t : Told) (h : Turned rules bs shelf index cards lent t) where
      turned_answer : (b : Book M) → Stands rules b shelf index cards → Entering rules b (sizes_of shelf index cards) lent bs (turned t)
      turned_answer b st = enter_book rules laws sound shelf index cards lent h.count h.counted bs (turned t) (inr (framed, inr (right, h.found (fit_any st h.count (sheet_of rules.wide bs))))) b st

      turned_book : GoesOn rules (enter bs) lent (refused t) shelf index cards shelf index cards
      turned_book = goes_same rules laws sound shelf index cards lent (enter bs) (refused t) (λ b st. no_entry bs lent t (turned_answer b st))

    -- one that is entered
    module _ (shelf' : List ℕ) (index' : List Row) (cards' : List (Entry M)) (n : ℕ) (h : Entered rules bs shelf index cards lent shelf' index' cards' n) (b : Book M) (st : Stands rules b shelf index cards) where
      abbrev card : ℕ → List (Entry M)
      card = h.kept.card

      is_size : n ≡ size b
      is_size = counted_is st n h.counted

      found : EnterFound rules laws sound shelf index cards lent n h.counted bs (fine card)
      found = (
        framed,
        (
          right,
          placing_works rules (blocks_kept n index cards) bs (EnterLacks (sizes_of shelf index cards) lent (kept_end index n) n (length bs)) h.placed h.room (fine card)
              (h.kept.worked (fit_any st n (sheet_of rules.wide bs))),
        ),
      )

      goes : (d : Book M) × (Step rules (sizes_of shelf index cards) b (enter bs) lent (entered n) d × (Stands rules d shelf' index' cards' × Sound rules d index' cards'))
      goes = enter_done rules laws sound shelf index cards lent n h.counted bs card found h.kept.sized shelf' index' cards' h.kept.shelf_is h.kept.index_is h.kept.cards_is b st

      abbrev z : Entry M
      z = (entry_ops rules.ops).zero

      abbrev row : Row
      row = record { used = true; start = kept_end index n; len = length bs; inputs = (sheet_of rules.wide bs).face.inputs; outputs = (sheet_of rules.wide bs).face.outputs; lens = lens_of card; old = false }

      no_more : (e : ℕ) → (sheet_of rules.wide bs).face.inputs ≤ e → card e ≡ []
      no_more = (h.kept.worked (fit_any st n (sheet_of rules.wide bs))).none

      -- the tables now hold the card
      held_new : kept_list index' cards' n ≡ card
      held_new =
          let low : 128 * n ≤ length cards = omega (arith, room_cards (sizes_of shelf index cards) lent (kept_end index n) n (length bs) h.room) in
          let row_here : row_at index' n ≡ row = ap (λ i. row_at i n) h.kept.index_is ∙ get_or-set_same index n row no_row (room_index (sizes_of shelf index cards) lent (kept_end index n) n (length bs) h.room) in
          let rows-here : take 128 (drop (128 * n) cards') ≡ card_rows z card = ap (λ c. take 128 (drop (128 * n) c)) h.kept.cards_is ∙ part_written cards (128 * n) (card_rows z card) low 128 (sym (length_card_rows z card)) in
          off_card z card (sheet_of rules.wide bs).face.inputs (form_of rules.wide bs right).few_inputs h.kept.sized no_more (drop (128 * n) cards') (row_at index' n).lens (ap (λ (r : Row). r.lens) row_here) rows-here

      held : kept_list index' cards' (size b) ≡ card
      held = subst (λ k. kept_list index' cards' k ≡ card) is_size held_new

      entered_answer : Entering rules b (sizes_of shelf index cards) lent bs (fine (kept_list index' cards' n))
      entered_answer =
          subst (λ c. Entering rules b (sizes_of shelf index cards) lent bs (fine c)) (sym held_new) (enter_book rules laws sound shelf index cards lent n h.counted bs (fine card) found b st)

      now_shelf : shelf' ≡ overwritten shelf (used b) bs
      now_shelf = entered_shelf rules laws sound shelf index cards lent n h.counted bs card found h.kept.sized shelf' index' cards' h.kept.shelf_is h.kept.index_is h.kept.cards_is b st

      now_index : index' ≡ set index (size b) (row_of (with_block b (sheet_of rules.wide bs) (length bs) (kept_list index' cards' (size b))) (size b) false)
      now_index =
          entered_index rules laws sound shelf index cards lent n h.counted bs card found h.kept.sized shelf' index' cards' h.kept.shelf_is h.kept.index_is h.kept.cards_is b st
          ∙ ap (λ c. set index (size b) (row_of (with_block b (sheet_of rules.wide bs) (length bs) c) (size b) false)) (sym held)

      now_cards : cards' ≡ overwritten cards (128 * size b) (card_rows (entry_ops rules.ops).zero (kept_list index' cards' (size b)))
      now_cards =
          entered_cards rules laws sound shelf index cards lent n h.counted bs card found h.kept.sized shelf' index' cards' h.kept.shelf_is h.kept.index_is h.kept.cards_is b st
          ∙ ap (λ c. overwritten cards (128 * size b) (card_rows (entry_ops rules.ops).zero c)) (sym held)

    -- whatever was answered
    module _ (shelf' : List ℕ) (index' : List Row) (cards' : List (Entry M)) where
      abbrev pub EnterCase : Result ℕ Refusal → Type 0
      EnterCase r = MatchResult r (Entered rules bs shelf index cards lent shelf' index' cards') (λ e. Turned rules bs shelf index cards lent (told e))

      pub enter_answer : (r : Result ℕ Refusal) → EnterCase r → (b : Book M) → Stands rules b shelf index cards → Entering rules b (sizes_of shelf index cards) lent bs (verdict (kept_list index' cards') r)
      enter_answer (Ok n) h b st = entered_answer shelf' index' cards' n h b st
      enter_answer (Err e) h b st = turned_answer (told e) h b st

      pub enter_shelf : (r : Result ℕ Refusal) → EnterCase r → (b : Book M) → Stands rules b shelf index cards → is_ok r ≡ true → shelf' ≡ overwritten shelf (used b) bs
      enter_shelf (Ok n) h b st ok = now_shelf shelf' index' cards' n h b st
      enter_shelf (Err e) h b st ok = absurd (false≢true ok)

      pub enter_index : (r : Result ℕ Refusal) → EnterCase r → (b : Book M) → Stands rules b shelf index cards → is_ok r ≡ true → index' ≡ set index (size b) (row_of (with_block b (sheet_of rules.wide bs) (length bs) (kept_list index' cards' (size b))) (size b) false)
      enter_index (Ok n) h b st ok = now_index shelf' index' cards' n h b st
      enter_index (Err e) h b st ok = absurd (false≢true ok)

      pub enter_cards : (r : Result ℕ Refusal) → EnterCase r → (b : Book M) → Stands rules b shelf index cards → is_ok r ≡ true → cards' ≡ overwritten cards (128 * size b) (card_rows (entry_ops rules.ops).zero (kept_list index' cards' (size b)))
      enter_cards (Ok n) h b st ok = now_cards shelf' index' cards' n h b st
      enter_cards (Err e) h b st ok = absurd (false≢true ok)

      pub enter_goes : (r : Result ℕ Refusal) → EnterCase r → (is_ok r ≡ false → (shelf' ≡ shelf) × (index' ≡ index) × (cards' ≡ cards)) → GoesOn rules (enter bs) lent (reply (λ n. entered n) r) shelf index cards shelf' index' cards'
      enter_goes (Ok n) h same = λ b st. goes shelf' index' cards' n h b st
      enter_goes (Err e) h same =
          let is = same refl in
          subst₃ (λ x y z. GoesOn rules (enter bs) lent (refused (told e)) shelf index cards x y z) (sym is.0) (sym is.1) (sym is.2) (turned_book (told e) h)

-- a card worked for a sheet, kept with the sheet's bytes
module _ {M : Type 0} (rules : Rules M) (s : Sheet) (bs : List ℕ) (is : s ≡ sheet_of rules.wide bs) (n at : ℕ) (shelf : List ℕ) (index : List Row) (cards : List (Entry M)) where
  abbrev v : Blocks M
  v = blocks_kept n index cards

  pub stops_from : (t : Told) → (Fit (network v s) (cards_beneath v s) → StopsBy rules (faces_beneath v s) (cards_beneath v s) s s.face.kind t)
      → Fit (network v (sheet_of rules.wide bs)) (cards_beneath v (sheet_of rules.wide bs)) → Working rules v (sheet_of rules.wide bs) (turned t)
  stops_from t h = subst (λ x. Fit (network v x) (cards_beneath v x) → Working rules v x (turned t)) is h

  pub kept_from : (shelf' : List ℕ) (index' : List Row) (cards' : List (Entry M)) (rows : List (Entry M)) (lens : List ℕ) (face : Interface) → CardIn (entry_ops rules.ops).zero s.face.inputs rows lens
      → (Fit (network v s) (cards_beneath v s) → CardOf rules v s (list_at rows lens)) → face ≡ s.face → shelf' ≡ overwritten shelf at bs
      → index' ≡ set index n (record { used = true; start = at; len = length bs; inputs = face.inputs; outputs = face.outputs; lens = lens; old = false })
      → cards' ≡ overwritten cards (128 * n) (take 128 rows) → Kept rules v bs n at shelf index cards shelf' index' cards'
  kept_from shelf' index' cards' rows lens face in' worked f es ei ec =
      record {
        card = list_at rows lens;
        worked = subst (λ x. Fit (network v x) (cards_beneath v x) → CardOf rules v x (list_at rows lens)) is worked;
        sized = subst (λ (x : Sheet). (e : ℕ) → e < x.face.inputs → Sized (list_at rows lens e)) is in'.sized;
        shelf_is = es;
        index_is =
            ei ∙ ap (λ (x : Interface). set index n (record { used = true; start = at; len = length bs; inputs = x.inputs; outputs = x.outputs; lens = lens; old = false })) (f ∙ ap (λ (x : Sheet). x.face) is)
            ∙ ap (λ l. set index n (record { used = true; start = at; len = length bs; inputs = (sheet_of rules.wide bs).face.inputs; outputs = (sheet_of rules.wide bs).face.outputs; lens = l; old = false })) in'.lengths;
        cards_is = ec ∙ ap (overwritten cards (128 * n)) in'.front;
      }

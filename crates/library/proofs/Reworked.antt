-- The clauses of rework from what its code found. Assumes nothing.
use Rattle.std.proofs.Common.{◌≡◌, ℕ, ◌+◌, ◌*◌, ◌<◌, ◌≤◌, true, false, ◌&&◌, List, length, take, drop, set, is_ok, Ok, Err, Result, sym, refl, ap, ◌∙◌, subst, subst₂, inr, arith, MatchResult}
use Rattle.std.proofs.lemmas.List.{get_or-set_same}
use Rattle.std.proofs.lemmas.Bool.{false≢true, and_from}
use Rattle.costs.specs.Amounts.{Lawful}
use Rattle.costs.specs.Entries.{entry_ops}
use Rattle.costs.specs.Lists.{Sound as SoundReducer}
use Rattle.costs.specs.declared.entry.Entry.{Entry}
use Rattle.networks.specs.Networks.{Fit}
use Rattle.networks.specs.Rows.{list_at}
use Rattle.sheets.specs.Refusals.{framing_of, check_of}
use Rattle.sheets.specs.Sheets.{Sheet, sheet_of}
use Rattle.sheets.proofs.Forms.{form_of}
use Rattle.library.specs.Books.{Rules, Book, size, at, with_work, Stale}
use Rattle.library.specs.Checks.{Lent, MisnamedBy, NamedBy, Blocks, blocks_of, Verdict, turned, fine, Never, Behind, Named, cards_beneath, network, CardOf, Working}
use Rattle.library.specs.Law.{GoesOn}
use Rattle.library.specs.Marks.{Counted, kept_bytes}
use Rattle.library.specs.Memory.{Stands}
use Rattle.library.specs.Placing.{lent_of, faces_kept, Old, CardIn, Again, Redone, Regular, Renewed, Reworks, Settled}
use Rattle.library.specs.Refusals.{told, by_library}
use Rattle.library.specs.Replies.{verdict, reply}
use Rattle.library.specs.Steps.{Renewing, Reworking, rework, done, refused, no_rework}
use Rattle.library.specs.Tables.{no_row, row_at, row_of, lens_of, card_rows, overwritten, blocks_kept, kept_list}
use Rattle.library.specs.declared.refusal.Refusal.{Refusal}
use Rattle.library.specs.declared.refusal.Refusal.TheVariants.{NoBlock}
use Rattle.library.specs.declared.row.Row.{Row}
use Rattle.library.proofs.Answering.{goes_same}
use Rattle.library.proofs.Entered.{fit_any}
use Rattle.library.proofs.Forming.{off_card, names_pass}
use Rattle.library.proofs.Parts.{part_written}
use Rattle.library.proofs.Placing.{mark_stale, named_back, renewing_to}
use Rattle.library.proofs.Reading.{counted_is, framed_kept, right_kept, says_kept, book_current, list_is}
use Rattle.library.proofs.Renewing.{rework_missing, rework_current, rework_done, reworked_index}
use Rattle.library.proofs.Rows.{length_card_rows}

-- a card worked again, in its rows and its row
pub redone_from : {M : Type 0} (rules : Rules M) (v : Blocks M) (s : Sheet) (n : ℕ) (index : List Row) (cards : List (Entry M)) (index' : List Row) (cards' rows : List (Entry M)) (lens : List ℕ) (row : Row)
    → CardIn (entry_ops rules.ops).zero s.face.inputs rows lens → (Fit (network v s) (cards_beneath v s) → CardOf rules v s (list_at rows lens)) → row ≡ row_at index n
    → index' ≡ set index n (record { used = row.used; start = row.start; len = row.len; inputs = row.inputs; outputs = row.outputs; lens = lens; old = false })
    → cards' ≡ overwritten cards (128 * n) (take 128 rows) → Redone rules v s n index cards index' cards'
redone_from rules v s n index cards index' cards' rows lens row in' worked is ei ec =
    record {
      card = list_at rows lens;
      worked = worked;
      sized = in'.sized;
      index_is =
          ei ∙ ap (λ (r : Row). set index n (record { used = r.used; start = r.start; len = r.len; inputs = r.inputs; outputs = r.outputs; lens = lens; old = false })) is
          ∙ ap (λ l. set index n (record { used = (row_at index n).used; start = (row_at index n).start; len = (row_at index n).len; inputs = (row_at index n).inputs; outputs = (row_at index n).outputs; lens = l; old = false })) in'.lengths;
      cards_is = ec ∙ ap (overwritten cards (128 * n)) in'.front;
    }

-- checks 4 and 7 over the tables
module _ {M : Type 0} (rules : Rules M) (s : Sheet) (index : List Row) (cards : List (Entry M)) (lent : Lent) (count : ℕ) where
  module _ (current : Never (Old index s)) where
    none_behind : Never (Behind (blocks_kept count index cards) s)
    none_behind i p = current i (record { instance = p.instance; old = p.stale })

    module _ (rows : 3072 ≤ lent.rows) (n : ℕ) (index' : List Row) (cards' : List (Entry M)) where
      pub renew_done : (r : Result Unit Refusal)
          → MatchResult r (λ _. Redone rules (blocks_kept 0 index cards) s n index cards index' cards')
          (λ e. Fit (network (blocks_kept 0 index cards) s) (cards_beneath (blocks_kept 0 index cards) s) → Working rules (blocks_kept 0 index cards) s (turned (told e)))
          → MatchResult r (λ _. Renewed rules s count index cards lent n index' cards') (λ e. Regular rules s count index cards lent n → Renewing rules (blocks_kept count index cards) s lent (turned (told e)))
      renew_done (Ok u) h =
          record { card = h.card; renewing = λ reg. (none_behind, (rows, h.worked reg.fit)); sized = h.sized; index_is = h.index_is; cards_is = h.cards_is }
      renew_done (Err e) h = λ reg. inr (none_behind, inr (rows, h reg.fit))

-- what the names come to after checks 4 and 7
pub checked_again : {M : Type 0} (rules : Rules M) (s : Sheet) (index : List Row) (cards : List (Entry M)) (rows n w : ℕ) (bs : List ℕ) → sheet_of w bs ≡ s → Never (Old index s) → 3072 ≤ rows → 128 * n + 128 ≤ length cards
    → (r : Result Unit Refusal) → MatchResult r (λ _. Named (blocks_kept 0 index cards) s) (λ e. MisnamedBy (faces_kept index s.instances) w bs s.face.kind (told e))
    → MatchResult r (λ _. Again s index cards rows n) (λ e. (k : ℕ) → Regular rules s k index cards (lent_of rows 0) n → Renewing rules (blocks_kept k index cards) s (lent_of rows 0) (turned (told e)))
checked_again rules s index cards rows n w bs is current many room (Ok u) named = record { current = current; room = (many, room); named = named }
checked_again rules s index cards rows n w bs is current many room (Err e) misnamed =
    λ k reg. absurd (subst (λ x. MisnamedBy (faces_kept index x.instances) w bs x.face.kind (told e) → NamedBy (faces_kept index x.instances) x x.face.kind → ⊥) is (λ m named. names_pass (faces_kept index (sheet_of w bs).instances) w bs (told e) named m) misnamed reg.named)

module _ {M : Type 0} (rules : Rules M) (laws : Lawful rules.ops) (sound : SoundReducer rules.ops rules.gives) (shelf : List ℕ) (index : List Row) (cards : List (Entry M)) (lent : Lent)
    (count : ℕ) (counted : Counted index count) (n : ℕ) where
  abbrev kept_sheet : Sheet
  kept_sheet = sheet_of rules.wide (kept_bytes shelf (row_at index n))

  abbrev v : Blocks M
  v = blocks_kept count index cards

  module _ (b : Book M) (st : Stands rules b shelf index cards) where
    is_size : count ≡ size b
    is_size = counted_is st count counted

    missing_answer : count ≤ n → Reworks rules b lent n (turned (by_library 3 n))
    missing_answer high = Reworks.no_block (omega (arith, high, is_size))

    module _ (lt : n < count) where
      low : n < size b
      low = omega (arith, lt, is_size)

      current_answer : (row_at index n).old ≡ false → Reworks rules b lent n (fine (kept_list index cards n))
      current_answer new = Reworks.current (low, book_current st n low new) (kept_list index cards n) (λ k e. list_is st n e k)

      not_stale : (row_at index n).old ≡ false → Stale b n → ⊥
      not_stale new = book_current st n low new

      -- a kept sheet is a sheet
      is_kept : (is_ok (framing_of (kept_bytes shelf (row_at index n))) && is_ok (check_of rules.wide (kept_bytes shelf (row_at index n)))) ≡ true
      is_kept = and_from _ _ (framed_kept st n low) (right_kept st n low)

      pub no_kept : (row : Row) → row ≡ row_at index n → (is_ok (framing_of (kept_bytes shelf row)) && is_ok (check_of rules.wide (kept_bytes shelf row))) ≡ false → ⊥
      no_kept row is bad = false≢true (sym bad ∙ subst (λ r. (is_ok (framing_of (kept_bytes shelf r)) && is_ok (check_of rules.wide (kept_bytes shelf r))) ≡ true) (sym is) is_kept)

      -- in tables that stand for a book nothing else is found
      regular : Regular rules kept_sheet count index cards lent n
      regular =
          record {
            fit = fit_any st count kept_sheet;
            named = subst (λ s. Named v s) (sym (says_kept st n low)) (subst (λ k. Named (blocks_kept k index cards) (at b n).sheet) (sym is_size) (named_back st (at b n).sheet (st.book.blocks n low).named));
            room = omega (arith, low, st.cards_have.room);
          }

      module _ (old : (row_at index n).old ≡ true) where
        was : Stale b n
        was = mark_stale st n old

        renewing_book : (w : Verdict (ℕ → List (Entry M))) → Renewing rules v kept_sheet lent w → Reworking rules b lent n w
        renewing_book w h =
            subst (λ s. Renewing rules (blocks_of b) s lent w) (says_kept st n low) (renewing_to st kept_sheet lent w (subst (λ k. Renewing rules (blocks_kept k index cards) kept_sheet lent w) is_size h))

        module _ (index' : List Row) (cards' : List (Entry M)) where
          abbrev RenewCase : Result Unit Refusal → Type 0
          RenewCase r = MatchResult r (λ _. Renewed rules kept_sheet count index cards lent n index' cards') (λ e. Regular rules kept_sheet count index cards lent n → Renewing rules v kept_sheet lent (turned (told e)))

          -- the tables now hold the card
          module _ (h : Renewed rules kept_sheet count index cards lent n index' cards') where
            abbrev row : Row
            row = record { used = (row_at index n).used; start = (row_at index n).start; len = (row_at index n).len; inputs = (row_at index n).inputs; outputs = (row_at index n).outputs; lens = lens_of h.card; old = false }

            held : kept_list index' cards' n ≡ h.card
            held =
                let z = (entry_ops rules.ops).zero in
                let row_here : row_at index' n ≡ row = ap (λ i. row_at i n) h.index_is ∙ get_or-set_same index n row no_row (omega (arith, low, st.index_has.room)) in
                let rows-here : take 128 (drop (128 * n) cards') ≡ card_rows z h.card =
                ap (λ c. take 128 (drop (128 * n) c)) h.cards_is ∙ part_written cards (128 * n) (card_rows z h.card) (omega (arith, low, st.cards_have.room)) 128 (sym (length_card_rows z h.card)) in
                off_card z h.card kept_sheet.face.inputs (form_of rules.wide (kept_bytes shelf (row_at index n)) (right_kept st n low)).few_inputs h.sized (h.renewing regular).1.1.none
                (drop (128 * n) cards') (row_at index' n).lens (ap (λ (r : Row). r.lens) row_here) rows-here

            now_index : index' ≡ set index n (row_of (with_work b n (kept_list index' cards' n)) n false)
            now_index =
                reworked_index rules laws sound shelf index cards lent count counted n lt old h.card (h.renewing regular) h.sized index' cards' h.index_is h.cards_is b st
                ∙ ap (λ c. set index n (row_of (with_work b n c) n false)) (sym held)

            now_cards : cards' ≡ overwritten cards (128 * n) (card_rows (entry_ops rules.ops).zero (kept_list index' cards' n))
            now_cards = h.cards_is ∙ ap (λ c. overwritten cards (128 * n) (card_rows (entry_ops rules.ops).zero c)) (sym held)

          renew_answer : (r : Result Unit Refusal) → RenewCase r → Reworks rules b lent n (verdict (λ _. kept_list index' cards' n) r)
          renew_answer (Ok u) h = Reworks.outdated low was _ (subst (λ c. Reworking rules b lent n (fine c)) (sym (held h)) (renewing_book (fine h.card) (h.renewing regular)))
          renew_answer (Err e) h = Reworks.outdated low was _ (renewing_book (turned (told e)) (h regular))

          renew_index : (r : Result Unit Refusal) → RenewCase r → is_ok r ≡ true → ((Stale b n → ⊥) → index' ≡ index) × (Stale b n → index' ≡ set index n (row_of (with_work b n (kept_list index' cards' n)) n false))
          renew_index (Ok u) h ok = ((λ new. absurd (new was)), λ _. now_index h)
          renew_index (Err e) h ok = absurd (false≢true ok)

          renew_cards : (r : Result Unit Refusal) → RenewCase r → is_ok r ≡ true
              → ((Stale b n → ⊥) → cards' ≡ cards) × (Stale b n → cards' ≡ overwritten cards (128 * n) (card_rows (entry_ops rules.ops).zero (kept_list index' cards' n)))
          renew_cards (Ok u) h ok = ((λ new. absurd (new was)), λ _. now_cards h)
          renew_cards (Err e) h ok = absurd (false≢true ok)

  -- the book goes on
  renew_goes : n < count → (row_at index n).old ≡ true → (index' : List Row) (cards' : List (Entry M)) (r : Result Unit Refusal)
      → MatchResult r (λ _. Renewed rules kept_sheet count index cards lent n index' cards') (λ e. Regular rules kept_sheet count index cards lent n → Renewing rules v kept_sheet lent (turned (told e)))
      → (is_ok r ≡ false → (index' ≡ index) × (cards' ≡ cards)) → GoesOn rules (rework n) lent (reply (λ _. done) r) shelf index cards shelf index' cards'
  renew_goes lt old index' cards' (Ok u) h same =
      λ b st. rework_done rules laws sound shelf index cards lent count counted n lt old h.card (h.renewing (regular b st lt)) h.sized index' cards' h.index_is h.cards_is b st
  renew_goes lt old index' cards' (Err e) h same =
      let is = same refl in
      subst₂ (λ x y. GoesOn rules (rework n) lent (refused (told e)) shelf index cards shelf x y) (sym is.0) (sym is.1)
      (goes_same rules laws sound shelf index cards lent (rework n) (refused (told e)) (λ b st. no_rework n lent (told e) (low b st lt) (was b st lt old) (renewing_book b st lt old (turned (told e)) (h (regular b st lt)))))

  -- what rework promises, case by case
  pub settled_missing : count ≤ n → Settled rules lent n shelf index cards (Err (NoBlock n)) index cards
  settled_missing high =
      record {
        answer = λ b st. missing_answer b st high;
        index_is = λ b st ok. absurd (false≢true ok);
        cards_is = λ b st ok. absurd (false≢true ok);
        book = rework_missing rules laws sound shelf index cards lent count counted n high;
      }

  pub settled_current : n < count → (row_at index n).old ≡ false → Settled rules lent n shelf index cards (Ok tt) index cards
  settled_current lt new =
      record {
        answer = λ b st. current_answer b st lt new;
        index_is = λ b st ok. ((λ _. refl), λ stale. absurd (not_stale b st lt new stale));
        cards_is = λ b st ok. ((λ _. refl), λ stale. absurd (not_stale b st lt new stale));
        book = rework_current rules laws sound shelf index cards lent count counted n lt new;
      }

  pub settled_nowhere : ((b : Book M) → Stands rules b shelf index cards → ⊥) → (e : Refusal) → Settled rules lent n shelf index cards (Err e) index cards
  settled_nowhere gone e =
      record {
        answer = λ b st. absurd (gone b st);
        index_is = λ b st ok. absurd (false≢true ok);
        cards_is = λ b st ok. absurd (false≢true ok);
        book = λ b st. absurd (gone b st);
      }

  pub settled_renewed : n < count → (row_at index n).old ≡ true → (index' : List Row) (cards' : List (Entry M)) (r : Result Unit Refusal)
      → MatchResult r (λ _. Renewed rules kept_sheet count index cards lent n index' cards') (λ e. Regular rules kept_sheet count index cards lent n → Renewing rules v kept_sheet lent (turned (told e)))
      → (is_ok r ≡ false → (index' ≡ index) × (cards' ≡ cards)) → Settled rules lent n shelf index cards r index' cards'
  settled_renewed lt old index' cards' r h same =
      record {
        answer = λ b st. renew_answer b st lt old index' cards' r h;
        index_is = λ b st. renew_index b st lt old index' cards' r h;
        cards_is = λ b st. renew_cards b st lt old index' cards' r h;
        book = renew_goes lt old index' cards' r h same;
      }

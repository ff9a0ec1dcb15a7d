-- The checks in their order, and the block that was kept.
use Rattle.std.proofs.Common.{◌≡◌, ℕ, ◌+◌, ◌*◌, ◌<◌, ◌≤◌, List, length, refl, ap, ◌∙◌, subst, subst₂, arith}
use Rattle.std.proofs.lemmas.Bool.{true≢false}
use Rattle.costs.specs.declared.entry.Entry.{Entry}
use Rattle.sheets.specs.Sheets.{sheet_of}
use Rattle.charts.specs.Naming.{says}
use Rattle.library.specs.Books.{rules}
use Rattle.library.specs.Checks.{turned, Never, NamedBy}
use Rattle.library.specs.Marks.{Counted, kept_end}
use Rattle.library.specs.Placing.{lent_of, faces_kept, Placeable, Unplaced, Turned, Kept}
use Rattle.library.specs.Refusals.{told, by_library, table_number}
use Rattle.library.specs.Steps.{EnterLacks}
use Rattle.library.specs.Tables.{blocks_kept, sizes_of}
use Rattle.library.specs.declared.row.Row.{Row}
use Rattle.library.proofs.Entered.{placing_unplaced, placing_lacks, placing_works, stops_from}
use Rattle.library.proofs.Passing.{passed_is, over, same_tables}
use Rattle.library.proofs.Rooms.{room_shelf, room_index, room_cards, room_rows}
use Rattle.library.proofs.Library.enter_checked.Goals as goal

pub enter_at-requires : goal.enter_at-requires
enter_at-requires g c =
    let k = c.kept-kept in
    let s = says c.args.sheet.now in
    let n = c.count-n.result in
    let len = length c.args.bytes.now in
    let found = c.in_ok-at.ensures in
    let Fits : List ℕ → List Row → List (Entry g.row.M.Denot) → Type 0 =
    λ z i d. NamedBy (faces_kept i s.instances) s s.face.kind × (c.in_ok-at.at + len ≤ length z) × (n < length i) × (128 * n + 128 ≤ length d) in
    let fits = over Fits k.ensures.shelf k.ensures.index k.ensures.cards
    (c.in_ok-check_place.ensures.named, omega (arith, found.0, room_shelf _ _ _ _ _ found.1), room_index _ _ _ _ _ found.1, room_cards _ _ _ _ _ found.1) in
    record { bytes = c.requires.bytes; width = c.requires.width; named = fits.0; rows = room_rows _ _ _ _ _ found.1; room = (fits.1, fits.2, fits.3) }

pub returns-in_err-check_place : goal.returns-in_err-check_place
returns-in_err-check_place g c =
    let k = c.kept-kept in
    let shelf = k.result.shelf.now in
    let index = k.result.index.now in
    let cards = k.result.cards.now in
    let n = c.count-n.result in
    let bs = c.args.bytes.now in
    let lent = lent_of (length c.args.rows.now) 0 in
    let R = rules g.M.Measure.ops g.M.Measure.wide g.M.Measure.meant g.R.Reducer.gives in
    let v = blocks_kept n index cards in
    let t = told c.in_err-check_place.field-0.0 in
    rw (passed_is c.from_residual.result _ c.from_residual.ensures) (record {
      tables = same_tables _;
      same = λ _. (refl, refl, refl);
      found = over (λ z i d. Turned R bs z i d lent t) k.ensures.shelf k.ensures.index k.ensures.cards (record {
        count = n;
        counted = c.count-n.ensures;
        found = λ _. placing_unplaced R v bs (EnterLacks (sizes_of shelf index cards) lent (kept_end index n) n (length bs)) t
            (subst₂ (λ w x. Unplaced v w x t) c.requires.width c.requires.bytes c.in_err-check_place.ensures);
      });
    })

pub returns-in_err-at : goal.returns-in_err-at
returns-in_err-at g c =
    let k = c.kept-kept in
    let shelf = k.result.shelf.now in
    let index = k.result.index.now in
    let cards = k.result.cards.now in
    let n = c.count-n.result in
    let bs = c.args.bytes.now in
    let lent = lent_of (length c.args.rows.now) 0 in
    let sheet = c.args.sheet.now in
    let R = rules g.M.Measure.ops g.M.Measure.wide g.M.Measure.meant g.R.Reducer.gives in
    let v = blocks_kept n index cards in
    let is : says sheet ≡ sheet_of R.wide bs = ap (λ w. sheet_of w sheet.bytes.now) c.requires.width ∙ ap (sheet_of R.wide) c.requires.bytes in
    let table = c.in_err-at.field-0.0 in
    rw (passed_is c.from_residual-in_err-at.result _ c.from_residual-in_err-at.ensures) (record {
      tables = same_tables _;
      same = λ _. (refl, refl, refl);
      found = over (λ z i d. Turned R bs z i d lent (by_library 7 (table_number table))) k.ensures.shelf k.ensures.index k.ensures.cards (record {
        count = n;
        counted = c.count-n.ensures;
        found = λ _. placing_lacks R v bs (EnterLacks (sizes_of shelf index cards) lent (kept_end index n) n (length bs)) (subst (Placeable v) is c.in_ok-check_place.ensures) (table_number table) c.in_err-at.ensures;
      });
    })

pub returns-in_err-enter_at : goal.returns-in_err-enter_at
returns-in_err-enter_at g c =
    let k = c.kept-kept.ensures in
    let shelf = c.args.self.now.shelf.now in
    let index = c.args.self.now.index.now in
    let cards = c.args.self.now.cards.now in
    let n = c.count-n.result in
    let bs = c.args.bytes.now in
    let lent = lent_of (length c.args.rows.now) 0 in
    let sheet = c.args.sheet.now in
    let R = rules g.M.Measure.ops g.M.Measure.wide g.M.Measure.meant g.R.Reducer.gives in
    let v = blocks_kept n index cards in
    let is : says sheet ≡ sheet_of R.wide bs = ap (λ w. sheet_of w sheet.bytes.now) c.requires.width ∙ ap (sheet_of R.wide) c.requires.bytes in
    let placed : Placeable v (says sheet) = over (λ _ i d. Placeable (blocks_kept n i d) (says sheet)) k.shelf k.index k.cards c.in_ok-check_place.ensures in
    let room = over (λ z i d. (c.in_ok-at.at ≡ kept_end i n) × Never (EnterLacks (sizes_of z i d) lent (kept_end i n) n (length bs))) k.shelf k.index k.cards c.in_ok-at.ensures in
    let counted = subst (λ i. Counted i n) k.index c.count-n.ensures in
    let t = told c.in_err-enter_at.field-0.0 in
    let e = c.in_err-enter_at.ensures in
    rw (passed_is c.from_residual-in_err-enter_at.result _ c.from_residual-in_err-enter_at.ensures) (record {
      tables = e.tables;
      same = e.same;
      found = record {
        count = n;
        counted = counted;
        found = λ fit. placing_works R v bs (EnterLacks (sizes_of shelf index cards) lent (kept_end index n) n (length bs)) (subst (Placeable v) is placed) room.1 (turned t)
            (stops_from R (says sheet) bs is n 0 shelf index cards t e.kept fit);
      };
    })

pub returns : goal.returns
returns g c =
    let k = c.kept-kept.ensures in
    let shelf = c.args.self.now.shelf.now in
    let index = c.args.self.now.index.now in
    let cards = c.args.self.now.cards.now in
    let n = c.count-n.result in
    let bs = c.args.bytes.now in
    let lent = lent_of (length c.args.rows.now) 0 in
    let sheet = c.args.sheet.now in
    let R = rules g.M.Measure.ops g.M.Measure.wide g.M.Measure.meant g.R.Reducer.gives in
    let v = blocks_kept n index cards in
    let is : says sheet ≡ sheet_of R.wide bs = ap (λ w. sheet_of w sheet.bytes.now) c.requires.width ∙ ap (sheet_of R.wide) c.requires.bytes in
    let placed : Placeable v (says sheet) = over (λ _ i d. Placeable (blocks_kept n i d) (says sheet)) k.shelf k.index k.cards c.in_ok-check_place.ensures in
    let room = over (λ z i d. (c.in_ok-at.at ≡ kept_end i n) × Never (EnterLacks (sizes_of z i d) lent (kept_end i n) n (length bs))) k.shelf k.index k.cards c.in_ok-at.ensures in
    let counted = subst (λ i. Counted i n) k.index c.count-n.ensures in
    let new = c.enter_at.new.self in
    let e = c.in_ok-enter_at.ensures in
    record {
      tables = e.tables;
      same = λ z. absurd (true≢false z);
      found = record {
        counted = counted;
        placed = subst (Placeable v) is placed;
        room = room.1;
        kept = subst (λ p. Kept R v bs n p shelf index cards new.shelf.now new.index.now new.cards.now) room.0 e.kept;
      };
    }

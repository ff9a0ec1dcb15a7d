-- Each way out keeps the promise of rework.
use Rattle.std.proofs.Common.{◌≡◌, ◌*◌, Bool, true, false, not, length, take, Ok, Err, sym, refl, ap, ◌∙◌, subst, arith}
use Rattle.std.proofs.lemmas.Bool.{false≢true, true≢false}
use Rattle.std.proofs.lemmas.List.{drop_at}
use Rattle.sheets.specs.Sheets.{sheet_of}
use Rattle.charts.specs.Naming.{says}
use Rattle.library.specs.Books.{rules}
use Rattle.library.specs.Checks.{turned}
use Rattle.library.specs.Marks.{kept_bytes}
use Rattle.library.specs.Placing.{lent_of, Again, Regular, Renewed}
use Rattle.library.specs.Refusals.{told}
use Rattle.library.specs.Steps.{Renewing}
use Rattle.library.specs.Tables.{row_at, overwritten, blocks_kept}
use Rattle.library.specs.declared.row.Row.{Row}
use Rattle.library.proofs.Passing.{passed_is}
use Rattle.library.proofs.Reworked.{no_kept, redone_from, renew_done, settled_missing, settled_current, settled_nowhere, settled_renewed}
use Rattle.library.proofs.Kept.again.Goals as goal

not-true : (x : Bool) → not x ≡ true → x ≡ false
not-true true e = absurd (false≢true e)
not-true false e = refl

not-false : (x : Bool) → not x ≡ false → x ≡ true
not-false true e = refl
not-false false e = absurd (true≢false e)

pub returns-then-block-count : goal.returns-then-block-count
returns-then-block-count g c =
    settled_missing (rules g.M.Measure.ops g.M.Measure.wide g.M.Measure.meant g.R.Reducer.gives) g.met.M.Measure.lawful g.met.R.Reducer.sound c.args.self.now.shelf.now c.args.self.now.index.now c.args.self.now.cards.now
    (lent_of (length c.args.rows.now) 0) c.count.result c.count.ensures c.args.block c.if-block-count.true

pub returns-then-not-row : goal.returns-then-not-row
returns-then-not-row g c =
    settled_current (rules g.M.Measure.ops g.M.Measure.wide g.M.Measure.meant g.R.Reducer.gives) g.met.M.Measure.lawful g.met.R.Reducer.sound c.args.self.now.shelf.now c.args.self.now.index.now c.args.self.now.cards.now
    (lent_of (length c.args.rows.now) 0) c.count.result c.count.ensures c.args.block c.if-block-count.false (ap (λ (r : Row). r.old) (sym c.row-row.ensures) ∙ not-true _ c.if-not-row.true)

pub returns-in_default : goal.returns-in_default
returns-in_default g c =
    let R = rules g.M.Measure.ops g.M.Measure.wide g.M.Measure.meant g.R.Reducer.gives in
    let laws = g.met.M.Measure.lawful in
    let sound = g.met.R.Reducer.sound in
    let shelf = c.args.self.now.shelf.now in
    let index = c.args.self.now.index.now in
    let cards = c.args.self.now.cards.now in
    let lent = lent_of (length c.args.rows.now) 0 in
    settled_nowhere R laws sound shelf index cards lent c.count.result c.count.ensures c.args.block
    (λ b st. no_kept R laws sound shelf index cards lent c.count.result c.count.ensures c.args.block b st c.if-block-count.false c.row-row.result c.row-row.ensures c.in_default.ensures) _

pub returns-in_err-check_again : goal.returns-in_err-check_again
returns-in_err-check_again g c =
    let R = rules g.M.Measure.ops g.M.Measure.wide g.M.Measure.meant g.R.Reducer.gives in
    let index = c.args.self.now.index.now in
    let cards = c.args.self.now.cards.now in
    let lent = lent_of (length c.args.rows.now) 0 in
    let n = c.count.result in
    let block = c.args.block in
    let old : (row_at index block).old ≡ true = ap (λ (r : Row). r.old) (sym c.row-row.ensures) ∙ not-false _ c.if-not-row.false in
    let sheet = c.in-Some.sheet in
    let is : says sheet ≡ sheet_of R.wide (kept_bytes c.args.self.now.shelf.now (row_at index block)) =
    ap (λ w. sheet_of w sheet.bytes.now) c.in-Some.ensures.1 ∙ ap (sheet_of R.wide) (c.in-Some.ensures.0 ∙ ap (kept_bytes c.args.self.now.shelf.now) c.row-row.ensures) in
    let e = c.in_err-check_again.field-0.0 in
    rw (passed_is c.from_residual.result _ c.from_residual.ensures)
    (settled_renewed R g.met.M.Measure.lawful g.met.R.Reducer.sound c.args.self.now.shelf.now index cards lent n c.count.ensures block c.if-block-count.false old index cards (Err e)
    (subst (λ x. Regular R x n index cards lent block → Renewing R (blocks_kept n index cards) x lent (turned (told e))) is (c.in_err-check_again.ensures n)) (λ _. (refl, refl)))

pub returns-in_err-lens : goal.returns-in_err-lens
returns-in_err-lens g c =
    let R = rules g.M.Measure.ops g.M.Measure.wide g.M.Measure.meant g.R.Reducer.gives in
    let index = c.args.self.now.index.now in
    let cards = c.args.self.now.cards.now in
    let lent = lent_of (length c.args.rows.now) 0 in
    let n = c.count.result in
    let block = c.args.block in
    let old : (row_at index block).old ≡ true = ap (λ (r : Row). r.old) (sym c.row-row.ensures) ∙ not-false _ c.if-not-row.false in
    let sheet = c.in-Some.sheet in
    let is : says sheet ≡ sheet_of R.wide (kept_bytes c.args.self.now.shelf.now (row_at index block)) =
    ap (λ w. sheet_of w sheet.bytes.now) c.in-Some.ensures.1 ∙ ap (sheet_of R.wide) (c.in-Some.ensures.0 ∙ ap (kept_bytes c.args.self.now.shelf.now) c.row-row.ensures) in
    let again : Again (says sheet) index cards (length c.args.rows.now) block = c.in_ok-check_again.ensures in
    let e = c.in_err-lens.field-0.0 in
    rw (passed_is c.from_residual-in_err-lens.result _ c.from_residual-in_err-lens.ensures)
    (settled_renewed R g.met.M.Measure.lawful g.met.R.Reducer.sound c.args.self.now.shelf.now index cards lent n c.count.ensures block c.if-block-count.false old index cards (Err e)
    (subst (λ x. Regular R x n index cards lent block → Renewing R (blocks_kept n index cards) x lent (turned (told e))) is
    (renew_done R (says sheet) index cards lent n again.current again.room.0 block index cards (Err e) c.in_err-lens.ensures.answer)) (λ _. (refl, refl)))

pub returns : goal.returns
returns g c =
    let R = rules g.M.Measure.ops g.M.Measure.wide g.M.Measure.meant g.R.Reducer.gives in
    let index = c.args.self.now.index.now in
    let cards = c.args.self.now.cards.now in
    let lent = lent_of (length c.args.rows.now) 0 in
    let n = c.count.result in
    let block = c.args.block in
    let old : (row_at index block).old ≡ true = ap (λ (r : Row). r.old) (sym c.row-row.ensures) ∙ not-false _ c.if-not-row.false in
    let sheet = c.in-Some.sheet in
    let is : says sheet ≡ sheet_of R.wide (kept_bytes c.args.self.now.shelf.now (row_at index block)) =
    ap (λ w. sheet_of w sheet.bytes.now) c.in-Some.ensures.1 ∙ ap (sheet_of R.wide) (c.in-Some.ensures.0 ∙ ap (kept_bytes c.args.self.now.shelf.now) c.row-row.ensures) in
    let again : Again (says sheet) index cards (length c.args.rows.now) block = c.in_ok-check_again.ensures in
    let made = c.in_ok-lens.ensures in
    let lens = c.in_ok-lens.lens in
    let split : length c.work.new.rows ≡ 2816 = c.work.auto.rows ∙ c.split_at_mut-space.ensures.front_len in
    record {
      many = omega (arith, split, c.work.auto.card, c.split_at_mut-space.ensures.back_len, again.room.0);
      room = (omega (arith, c.count.ensures.within, c.if-block-count.false), again.room.1);
      written = λ index' cards' ei ec.
          settled_renewed R g.met.M.Measure.lawful g.met.R.Reducer.sound c.args.self.now.shelf.now index cards lent n c.count.ensures block c.if-block-count.false old index' cards' (Ok tt)
          (subst (λ x. Renewed R x n index cards lent block index' cards') is (renew_done R (says sheet) index cards lent n again.current again.room.0 block index' cards' (Ok tt)
          (redone_from R (blocks_kept 0 index cards) (says sheet) block index cards index' cards' c.work.new.card lens (row_at index block) made.rows made.answer refl ei
          (ec ∙ ap (λ r. overwritten cards (128 * block) (take 128 r)) (drop_at c.work.new.rows c.work.new.card 2816 split)))))
          (λ z. absurd (true≢false z));
    }

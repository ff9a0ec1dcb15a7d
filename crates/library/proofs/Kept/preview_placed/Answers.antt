-- Check 7, and the card that was worked.
use Rattle.std.proofs.Common.{length, refl, ap, ◌∙◌, inl, inr, arith}
use Rattle.std.proofs.lemmas.Bool.{true≢false}
use Rattle.sheets.proofs.Forms.{form_of}
use Rattle.charts.specs.Naming.{says}
use Rattle.library.specs.Books.{rules}
use Rattle.library.specs.Placing.{lent_of}
use Rattle.library.specs.Tables.{overwritten, blocks_kept}
use Rattle.library.proofs.Passing.{passed_is}
use Rattle.library.proofs.Previews.{previewed_from}
use Rattle.library.proofs.Rooms.{previews_rows, previews_out, previews_none}
use Rattle.library.proofs.Kept.preview_placed.Goals as goal

pub returns-then-rows-lt3072 : goal.returns-then-rows-lt3072
returns-then-rows-lt3072 g c =
    let lent = lent_of (length c.args.rows.now) (length c.args.out.now) in
    record { same = λ _. refl; found = λ _. inl (record { place = 4; first = previews_rows lent (omega arith); is = refl }) }

pub returns-then-out-lt128 : goal.returns-then-out-lt128
returns-then-out-lt128 g c =
    let lent = lent_of (length c.args.rows.now) (length c.args.out.now) in
    record { same = λ _. refl; found = λ _. inl (record { place = 5; first = previews_out lent (omega arith) (omega arith); is = refl }) }

pub returns-in_err-lens : goal.returns-in_err-lens
returns-in_err-lens g c =
    let lent = lent_of (length c.args.rows.now) (length c.args.out.now) in
    record { same = λ _. refl; found = rw (passed_is c.from_residual.result _ c.from_residual.ensures) (λ fit. inr (previews_none lent (omega arith) (omega arith), c.in_err-lens.ensures.answer fit)) }

pub returns : goal.returns
returns g c =
    let sheet = c.args.sheet.now in
    let R = rules g.M.Measure.ops g.M.Measure.wide g.M.Measure.meant g.R.Reducer.gives in
    let lent = lent_of (length c.args.rows.now) (length c.args.out.now) in
    let e = c.in_ok-lens.ensures in
    record {
      same = λ z. absurd (true≢false z);
      found = previewed_from R (blocks_kept 0 c.args.self.now.index.now c.args.self.now.cards.now) (says sheet) lent c.args.out.now c.overwrite.new.table c.work.new.card c.in_ok-lens.lens
          (form_of sheet.width.bytes sheet.bytes.now sheet.right).few_inputs (previews_none lent (omega arith) (omega arith)) e.rows e.answer
          (c.overwrite.ensures ∙ ap (overwritten c.args.out.now 0) c.split_at.ensures.front);
    }

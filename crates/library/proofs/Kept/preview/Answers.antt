-- The clauses from what was found.
use Rattle.std.proofs.Common.{◌≡◌, length, sym, refl, ap, ◌∙◌, subst}
use Rattle.sheets.specs.declared.width.Width.{Width}
use Rattle.charts.specs.Naming.{says}
use Rattle.library.specs.Books.{rules}
use Rattle.library.specs.Checks.{turned}
use Rattle.library.specs.Placing.{lent_of}
use Rattle.library.specs.Refusals.{told, by_library}
use Rattle.library.specs.Steps.{Previewing}
use Rattle.library.specs.Tables.{blocks_kept}
use Rattle.library.proofs.Passing.{passed_is}
use Rattle.library.proofs.Previews.{wide_answer, no_goes, unplaced_answer, placed_answer, preview_goes, preview_rows}
use Rattle.library.proofs.Kept.preview.Goals as goal

pub returns-then-given-width : goal.returns-then-given-width
returns-then-given-width g c =
    let R = rules g.M.Measure.ops g.M.Measure.wide g.M.Measure.meant g.R.Reducer.gives in
    let laws = g.met.M.Measure.lawful in
    let sound = g.met.R.Reducer.sound in
    let sheet = c.args.sheet.now in
    let w = sheet.width.bytes in
    let bs = sheet.bytes.now in
    let lent = lent_of (length c.args.rows.now) (length c.args.out.now) in
    let given : c.width-given.result.bytes ≡ w = ap (λ (x : Width). x.bytes) c.width-given.ensures in
    let ne : w ≡ R.wide → ⊥ = λ e. c.if-given-width.true (given ∙ e ∙ sym c.width.ensures) in
    let plain = wide_answer R laws sound c.args.self.now.shelf.now c.args.self.now.index.now c.args.self.now.cards.now lent bs sheet.framed w sheet.right ne in
    record {
      same = λ _. refl;
      answer = λ b st. subst (λ k. Previewing R b lent w bs (turned (by_library 2 k))) (sym given) (plain b st);
      rows = refl;
      book = no_goes R laws sound c.args.self.now.shelf.now c.args.self.now.index.now c.args.self.now.cards.now lent bs sheet.framed w (by_library 2 c.width-given.result.bytes)
          (λ b st. subst (λ k. Previewing R b lent w bs (turned (by_library 2 k))) (sym given) (plain b st));
    }

pub returns-in_err-check_place : goal.returns-in_err-check_place
returns-in_err-check_place g c =
    let R = rules g.M.Measure.ops g.M.Measure.wide g.M.Measure.meant g.R.Reducer.gives in
    let laws = g.met.M.Measure.lawful in
    let sound = g.met.R.Reducer.sound in
    let sheet = c.args.sheet.now in
    let w = sheet.width.bytes in
    let bs = sheet.bytes.now in
    let lent = lent_of (length c.args.rows.now) (length c.args.out.now) in
    let is : w ≡ R.wide = sym (ap (λ (x : Width). x.bytes) c.width-given.ensures) ∙ c.if-given-width.false ∙ c.width.ensures in
    let t = told c.in_err-check_place.field-0.0 in
    let answer = unplaced_answer R laws sound c.args.self.now.shelf.now c.args.self.now.index.now c.args.self.now.cards.now lent bs sheet.framed c.count.result c.count.ensures t w is sheet.right c.in_err-check_place.ensures in
    rw (passed_is c.from_residual.result _ c.from_residual.ensures) (record {
      same = λ _. refl;
      answer = answer;
      rows = refl;
      book = no_goes R laws sound c.args.self.now.shelf.now c.args.self.now.index.now c.args.self.now.cards.now lent bs sheet.framed w t answer;
    })

pub returns : goal.returns
returns g c =
    let R = rules g.M.Measure.ops g.M.Measure.wide g.M.Measure.meant g.R.Reducer.gives in
    let laws = g.met.M.Measure.lawful in
    let sound = g.met.R.Reducer.sound in
    let sheet = c.args.sheet.now in
    let w = sheet.width.bytes in
    let bs = sheet.bytes.now in
    let lent = lent_of (length c.args.rows.now) (length c.args.out.now) in
    let is : w ≡ R.wide = sym (ap (λ (x : Width). x.bytes) c.width-given.ensures) ∙ c.if-given-width.false ∙ c.width.ensures in
    let p = c.preview_placed in
    let answer = placed_answer R laws sound c.args.self.now.shelf.now c.args.self.now.index.now c.args.self.now.cards.now lent bs sheet.framed c.count.result c.count.ensures
    c.args.out.now p.new.out p.result w is sheet.right c.in_ok-check_place.ensures p.ensures.found in
    record {
      same = p.ensures.same;
      answer = answer;
      rows = preview_rows R (blocks_kept 0 c.args.self.now.index.now c.args.self.now.cards.now) (says sheet) lent c.args.out.now p.new.out _ p.result p.ensures.found p.ensures.same;
      book = preview_goes R laws sound c.args.self.now.shelf.now c.args.self.now.index.now c.args.self.now.cards.now lent bs sheet.framed w p.new.out p.result answer;
    }

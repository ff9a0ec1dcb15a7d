-- The clauses from what was found.
use Rattle.std.proofs.Common.{length, refl, sym, ap, ◌∙◌, subst, subst₂, inl, inr}
use Rattle.std.proofs.lemmas.Bool.{false≢true}
use Rattle.sheets.specs.Refusals.{both_of}
use Rattle.sheets.specs.declared.width.Width.{Width}
use Rattle.library.specs.Books.{rules}
use Rattle.library.specs.Checks.{Framed, Right}
use Rattle.library.specs.Placing.{lent_of, Unsheeted}
use Rattle.library.specs.Refusals.{by_sheet}
use Rattle.library.proofs.Applying.{read_stops}
use Rattle.library.proofs.Entered.{bad_answer, bad_book, enter_answer, enter_shelf, enter_index, enter_cards, enter_goes}
use Rattle.library.proofs.Passing.{passed_is, same_tables}
use Rattle.library.proofs.Library.enter.Goals as goal

pub returns-in_err-checked : goal.returns-in_err-checked
returns-in_err-checked g c =
    let R = rules g.M.Measure.ops g.M.Measure.wide g.M.Measure.meant g.R.Reducer.gives in
    let bs = c.args.sheet.now in
    let lent = lent_of (length c.args.rows.now) 0 in
    let e = c.in_err-checked.field-0.0 in
    let t = by_sheet e in
    let shelf = c.args.self.now.shelf.now in
    let index = c.args.self.now.index.now in
    let cards = c.args.self.now.cards.now in
    let h : Unsheeted R.wide bs t = read_stops R.wide bs e (ap (λ w. both_of w bs) (sym c.width.ensures) ∙ sym c.in_err-checked.ensures.value) (λ bad. inl bad) (λ framed bad. inr (framed, bad)) in
    rw (passed_is c.from_residual.result _ c.from_residual.ensures) (record {
      tables = same_tables _;
      same = λ _. (refl, refl, refl);
      answer = bad_answer R g.met.M.Measure.lawful g.met.R.Reducer.sound bs shelf index cards lent t h;
      shelf = λ b st ok. absurd (false≢true ok);
      index = λ b st ok. absurd (false≢true ok);
      cards = λ b st ok. absurd (false≢true ok);
      book = bad_book R g.met.M.Measure.lawful g.met.R.Reducer.sound bs shelf index cards lent t h;
    })

pub returns : goal.returns
returns g c =
    let R = rules g.M.Measure.ops g.M.Measure.wide g.M.Measure.meant g.R.Reducer.gives in
    let laws = g.met.M.Measure.lawful in
    let sound = g.met.R.Reducer.sound in
    let bs = c.args.sheet.now in
    let shelf = c.args.self.now.shelf.now in
    let index = c.args.self.now.index.now in
    let cards = c.args.self.now.cards.now in
    let lent = lent_of (length c.args.rows.now) 0 in
    let sheet = c.in_ok-checked.checked in
    let framed : Framed bs = subst Framed c.in_ok-checked.ensures.bytes sheet.framed in
    let right : Right R.wide bs = subst₂ Right (ap (λ (w : Width). w.bytes) c.in_ok-checked.ensures.width ∙ c.width.ensures) c.in_ok-checked.ensures.bytes sheet.right in
    let e = c.enter_checked in
    let new = e.new.self in
    record {
      tables = e.ensures.tables;
      same = e.ensures.same;
      answer = enter_answer R laws sound bs shelf index cards lent framed right new.shelf.now new.index.now new.cards.now e.result e.ensures.found;
      shelf = enter_shelf R laws sound bs shelf index cards lent framed right new.shelf.now new.index.now new.cards.now e.result e.ensures.found;
      index = enter_index R laws sound bs shelf index cards lent framed right new.shelf.now new.index.now new.cards.now e.result e.ensures.found;
      cards = enter_cards R laws sound bs shelf index cards lent framed right new.shelf.now new.index.now new.cards.now e.result e.ensures.found;
      book = enter_goes R laws sound bs shelf index cards lent framed right new.shelf.now new.index.now new.cards.now e.result e.ensures.found e.ensures.same;
    }

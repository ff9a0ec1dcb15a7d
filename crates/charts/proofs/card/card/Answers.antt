-- The card in the caller's rows, with what is shown of it. Assumes nothing.
use Rattle.std.proofs.Common.{◌≡◌, ◌+◌, ◌*◌, get_or, sym, refl, ◌∙◌, subst, arith}
use Rattle.std.proofs.lemmas.Result.{err_from_is_err_and}
use Rattle.costs.specs.Entries.{entry_ops}
use Rattle.sheets.proofs.Forms.{form_of}
use Rattle.charts.specs.Forming.{made}
use Rattle.charts.specs.Naming.{says}
use Rattle.charts.specs.Refusals.{lists_at, CardBy}
use Rattle.charts.proofs.Promises.{shown, exact, refusal_exact}
use Rattle.costs.proofs.Interface.{same_part, same_at}
use Rattle.charts.proofs.Segments.{lists_same}
use Rattle.charts.proofs.card.card.Goals as goal

pub returns-in_err-ends : goal.returns-in_err-ends
returns-in_err-ends g c =
    let p = err_from_is_err_and c.from_residual.result c.from_residual.ensures.1 in
    let S = says c.args.sheet.now in
    let h = c.in_err-ends.ensures in
    rw (p.1, p.2) (record { answer = h; rows = refl; lengths = tt; whole = tt; covers = tt; attained = tt; exact = refusal_exact g.M.Measure.ops g.M.Measure.meant g.R.Reducer.gives S _ h })

pub returns : goal.returns
returns g c =
    let sheet = c.args.sheet.now in
    let S = says sheet in
    let ops = g.M.Measure.ops in
    let meant = g.M.Measure.meant in
    let gives = g.R.Reducer.gives in
    let form = form_of sheet.width.bytes sheet.bytes.now sheet.right in
    let done = c.in_ok-ends.ensures in
    let ends = c.in_ok-ends.ends in
    let rows = c.work_card.new.card in
    let out = c.copy_rows.new.out in
    let n = S.face.inputs in
    let same : lists_at rows ends n 0 ≡ lists_at out ends n 0 =
    lists_same rows out ends ends n 0 (λ t low high. sym (same_part out rows 128 c.copy_rows.ensures.front (16 * t) (get_or ends t 0) (omega (arith, done.lent.short t, form.few_inputs)))) in
    let ls = lists_at out ends n 0 in
    let card = subst (λ l. CardBy ops meant gives S S.face.kind (made l)) same done.card in
    let all = shown g.met.M.Measure.lawful meant g.met.R.Reducer.sound S form c.requires.named ls S.face.kind refl card in
    record {
      answer = card;
      rows = (λ e j low past small. same_at out rows 128 c.copy_rows.ensures.front (16 * e + j) (entry_ops ops).zero (omega arith) ∙ done.padded e j past small, c.copy_rows.ensures.rest);
      lengths = record { short = done.lent.short; unused = done.unused };
      whole = all.whole;
      covers = all.covers;
      attained = all.attains;
      exact = λ f computes. exact ops meant S f computes S.face.kind (made ls) card;
    }

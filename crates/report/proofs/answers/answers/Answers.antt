use Rattle.std.proofs.Common.{◌∙◌, ap, vec_items}
use Rattle.report.proofs.Files.{sheet_more, other_tag, whole, cut}
use Rattle.report.proofs.answers.answers.Goals.{then-end-bytes+in_ok-push-3, else-end-bytes}
use Rattle.report.proofs.answers.answers.Goals as goal

pub returns-then-field-ne-SHEET : goal.returns-then-field-ne-SHEET
returns-then-field-ne-SHEET c =
    c.in_ok-push.ensures.items
    ∙ other_tag _ _ _ _ _ c.loop-field.invariant c.in-Some.field _ c.in-Some.ensures.steps c.if-field-ne-SHEET.true

pub loop-field-preserved : goal.loop-field-preserved
loop-field-preserved c =
    sheet_more _ _ _ _ _ c.loop-field.invariant c.in-Some.field _ c.in-Some.ensures.steps _ _ c.if-field-ne-SHEET.false c.answer.ensures c.in_ok-push-2.ensures.items

pub returns : goal.returns
returns c = elim c.if-end-bytes.branch [
  | then-end-bytes+in_ok-push-3 w ↦ ap vec_items w.lines-is ∙ w.in_ok-push-3.ensures.items ∙ cut _ _ _ _ _ c.loop-field.invariant c.in-None.ensures.steps.0 w.if-end-bytes.true
  | else-end-bytes w ↦ ap vec_items w.lines-is ∙ whole _ _ _ _ _ c.loop-field.invariant c.in-None.ensures.steps.0 w.if-end-bytes.false
]

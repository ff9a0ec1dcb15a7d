use Rattle.std.proofs.Common.{ap, ◌∙◌, rules}
use Rattle.sheets.specs.Reading.{as_transition}
use Rattle.sheets.proofs.Saying.{transitions_read}
use Rattle.sheets.proofs.opened.Checked.transition.Goals as goal

pub returns : goal.returns
returns c =
    let s = c.args.self.now in
    c.as_transition.ensures ∙ ap as_transition c.in_ok-field.ensures ∙ transitions_read s.width.bytes s.bytes.now s.right c.args.k

pub returns-in_err-field : goal.returns-in_err-field
returns-in_err-field c =
    let s = c.args.self.now in
    let none = ap as_transition c.in_err-field.ensures ∙ transitions_read s.width.bytes s.bytes.now s.right c.args.k in
    search rules

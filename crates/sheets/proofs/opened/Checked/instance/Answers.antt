use Rattle.std.proofs.Common.{ap, ◌∙◌, rules}
use Rattle.sheets.specs.Reading.{as_instance}
use Rattle.sheets.proofs.Saying.{instances_read}
use Rattle.sheets.proofs.opened.Checked.instance.Goals as goal

pub returns : goal.returns
returns c =
    let s = c.args.self.now in
    c.as_instance.ensures ∙ ap as_instance c.in_ok-field.ensures ∙ instances_read s.width.bytes s.bytes.now s.right c.args.k

pub returns-in_err-field : goal.returns-in_err-field
returns-in_err-field c =
    let s = c.args.self.now in
    let none = ap as_instance c.in_err-field.ensures ∙ instances_read s.width.bytes s.bytes.now s.right c.args.k in
    search rules

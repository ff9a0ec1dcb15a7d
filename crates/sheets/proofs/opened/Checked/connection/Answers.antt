use Rattle.std.proofs.Common.{ap, ◌∙◌, rules}
use Rattle.sheets.specs.Reading.{as_connection}
use Rattle.sheets.proofs.Saying.{connections_read}
use Rattle.sheets.proofs.opened.Checked.connection.Goals as goal

pub returns : goal.returns
returns c =
    let s = c.args.self.now in
    c.as_connection.ensures ∙ ap as_connection c.in_ok-field.ensures ∙ connections_read s.width.bytes s.bytes.now s.right c.args.k

pub returns-in_err-field : goal.returns-in_err-field
returns-in_err-field c =
    let s = c.args.self.now in
    let none = ap as_connection c.in_err-field.ensures ∙ connections_read s.width.bytes s.bytes.now s.right c.args.k in
    search rules

use Rattle.std.proofs.Common.{ap, ◌∙◌, rules}
use Rattle.sheets.specs.Reading.{as_entry}
use Rattle.sheets.proofs.Saying.{entries_read}
use Rattle.sheets.proofs.opened.Checked.entry.Goals as goal

pub returns : goal.returns
returns c =
    let s = c.args.self.now in
    c.as_entry.ensures ∙ ap (as_entry s.width.bytes) c.in_ok-field.ensures ∙ entries_read s.width.bytes s.bytes.now s.right c.args.k

pub returns-in_err-field : goal.returns-in_err-field
returns-in_err-field c =
    let s = c.args.self.now in
    let none = ap (as_entry s.width.bytes) c.in_err-field.ensures ∙ entries_read s.width.bytes s.bytes.now s.right c.args.k in
    search rules

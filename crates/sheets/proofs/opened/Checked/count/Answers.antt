use Rattle.std.proofs.Common.{length, ap, ◌∙◌}
use Rattle.sheets.specs.Frames.{fields}
use Rattle.sheets.specs.Sheets.{tagged}
use Rattle.sheets.proofs.Saying.{length_tagged}
use Rattle.sheets.proofs.opened.Checked.count.Goals as goal

pub returns : goal.returns
returns c =
    let s = c.args.self.now in
    c.count_parts.ensures ∙ ap (λ t. length (tagged t (fields s.bytes.now))) c.into.ensures ∙ length_tagged s.width.bytes c.args.item s.bytes.now

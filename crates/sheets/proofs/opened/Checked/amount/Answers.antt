use Rattle.std.proofs.Common.{ap, ◌∙◌}
use Rattle.std.specs.List.{slice_get}
use Rattle.sheets.specs.Sheets.{sheet_of, amounts_at}
use Rattle.sheets.proofs.Saying.{amounts_content}
use Rattle.sheets.proofs.opened.Checked.amount.Goals as goal

pub returns : goal.returns
unfolding sheet_of
returns c =
    let s = c.args.self.now in
    c.piece.ensures ∙ ap (λ l. slice_get (amounts_at s.width.bytes l) c.args.k) (c.amount_bytes.ensures ∙ amounts_content s.bytes.now)

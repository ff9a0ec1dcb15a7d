use Rattle.std.proofs.Common.{◌/◌, length, sym, ap, ◌∙◌}
use Rattle.sheets.specs.Sheets.{sheet_of}
use Rattle.sheets.proofs.Pieces.{length_cut}
use Rattle.sheets.proofs.Saying.{amounts_content}
use Rattle.sheets.proofs.opened.Checked.amounts.Goals as goal

pub returns : goal.returns
unfolding sheet_of
returns c =
    let s = c.args.self.now in
    ap (λ l. length l / s.width.bytes) (c.amount_bytes.ensures ∙ amounts_content s.bytes.now)
    ∙ sym (length_cut s.width.bytes _ _)

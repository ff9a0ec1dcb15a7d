use Rattle.std.proofs.Common.{◌/◌, length, sym, ap, ◌∙◌}
use Rattle.sheets.proofs.Pieces.{length_actions}
use Rattle.sheets.proofs.Saying.{actions_read}
use Rattle.sheets.proofs.opened.Checked.actions.Goals as goal

pub returns : goal.returns
returns c =
    let s = c.args.self.now in
    ap (λ l. length l / 2) c.action_bytes.ensures
    ∙ sym (length_actions _) ∙ ap length (actions_read s.width.bytes s.bytes.now c.args.k)

use Rattle.std.proofs.Common.{ap, ◌∙◌}
use Rattle.std.specs.List.{slice_get}
use Rattle.sheets.specs.Sheets.{actions_at}
use Rattle.sheets.proofs.Saying.{actions_read}
use Rattle.sheets.proofs.opened.Checked.action.Goals as goal

pub returns : goal.returns
returns c =
    let s = c.args.self.now in
    c.action_at.ensures
    ∙ ap (λ l. slice_get (actions_at l) c.args.j) c.action_bytes.ensures
    ∙ ap (λ l. slice_get l c.args.j) (actions_read s.width.bytes s.bytes.now c.args.k)

-- What the action names is there. Assumes nothing.
use Rattle.std.proofs.Common.{[], get_or, sym, subst}
use Rattle.std.specs.List.{AllByRecursion}
use Rattle.std.proofs.ByRecursion.{All-get_or}
use Rattle.sheets.proofs.Forms.{form_of}
use Rattle.charts.specs.Charts.{NamedAction, no_action}
use Rattle.charts.specs.Naming.{says}
use Rattle.charts.proofs.Costs.{within_more}
use Rattle.charts.proofs.graph.Chart.action_cost.Goals as goal

pub output_counts-requires : goal.output_counts-requires
output_counts-requires g c =
    let sheet = c.args.self.now.sheet.now in
    let S = says sheet in
    let all = All-get_or (AllByRecursion (NamedAction S)) S.states c.args.s [] c.requires.0 c.args.self.now.named.states in
    let named = subst (NamedAction S) (sym c.action_at-action.ensures) (All-get_or (NamedAction S) (get_or S.states c.args.s []) c.args.j no_action c.requires.1 all) in
    within_more S.face.outputs 8 _ (form_of sheet.width.bytes sheet.bytes.now sheet.right).few_outputs named.output

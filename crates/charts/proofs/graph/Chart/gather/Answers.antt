-- The lists of the destinations, one after another. Assumes nothing.
use Rattle.std.proofs.Common.{length, ap, arith}
use Rattle.costs.proofs.Interface.{length_list_at}
use Rattle.sheets.proofs.Forms.{form_of}
use Rattle.charts.proofs.graph.Chart.gather.Goals as goal

pub list-requires : goal.list-requires
list-requires g c =
    let sheet = c.args.self.now.sheet.now in
    omega (arith, c.from.ensures, c.transition-transition.ensures.state, (form_of sheet.width.bytes sheet.bytes.now sheet.right).few_states)

pub append-n-requires : goal.append-n-requires
append-n-requires g c =
    let sheet = c.args.self.now.sheet.now in
    let few = (form_of sheet.width.bytes sheet.bytes.now sheet.right).few_transitions in
    let lists = c.args.lists.now in
    omega (arith, c.loop-t.invariant.few, few, c.count-t-end.ensures, ap length c.list.ensures, length_list_at lists.rows.now lists.lens c.from.result lists.lent, lists.lent.short c.from.result)

pub returns-clause-few : goal.returns-clause-few
returns-clause-few g c =
    let sheet = c.args.self.now.sheet.now in
    omega (arith, (form_of sheet.width.bytes sheet.bytes.now sheet.right).few_transitions, c.count-t-end.ensures, c.loop-t.invariant.few)

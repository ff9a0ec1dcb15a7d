-- The states, one after another. Assumes nothing.
use Rattle.std.proofs.Common.{◌+◌, get_or, take, drop, sym, ◌∙◌, subst, arith}
use Rattle.std.proofs.lemmas.List.{take_more, at_drop_more}
use Rattle.std.proofs.lemmas.Result.{err_from_is_err_and}
use Rattle.costs.specs.Lent.{list_at}
use Rattle.sheets.proofs.Forms.{form_of}
use Rattle.charts.specs.Charts.{state_cost, frees}
use Rattle.charts.specs.Cards.{StateList}
use Rattle.charts.specs.Naming.{says}
use Rattle.charts.specs.Rows.{Working}
use Rattle.charts.specs.declared.refusal.Refusal.TheVariants.{TooLong}
use Rattle.charts.proofs.Refusing.{formed_ok, formed_err, too_long_at}
use Rattle.charts.proofs.Working.{working_none, working_stop, working_more}
use Rattle.charts.proofs.graph.Chart.work_states.Goals as goal

pub loop-s-init : goal.loop-s-init
loop-s-init g c = working_none g.M.Measure.ops g.M.Measure.meant g.R.Reducer.gives (says c.args.self.now.sheet.now) c.args.order.now c.args.lists.now.rows.now c.args.lists.now.lens c.args.lists.now.lent.room c.requires.fresh

pub store-requires : goal.store-requires
store-requires g c =
    let sheet = c.args.self.now.sheet.now in
    let S = says sheet in
    let lists = c.loop-s.lists in
    let s = get_or c.args.order.now c.loop-s.s-index 0 in
    let node = (c.requires.order c.loop-s.s-index c.loop-s-test.true).node in
    let formed = formed_ok (StateList g.M.Measure.ops g.R.Reducer.gives (list_at lists.rows.now lists.lens) (state_cost g.M.Measure.ops g.M.Measure.meant S s) (frees S s)) (TooLong s) c.state_list.result c.in_ok-list.list c.in_ok-list.ensures.value c.state_list.ensures in
    (omega arith, (omega (arith, node, (form_of sheet.width.bytes sheet.bytes.now sheet.right).few_states), formed.1))

pub returns-in_err-list : goal.returns-in_err-list
returns-in_err-list g c =
    let S = says c.args.self.now.sheet.now in
    let ops = g.M.Measure.ops in
    let meant = g.M.Measure.meant in
    let gives = g.R.Reducer.gives in
    let l = c.loop-s in
    let order = c.args.order.now in
    let s = get_or order l.s-index 0 in
    let p = err_from_is_err_and c.from_residual.result c.from_residual.ensures.1 in
    let was = subst (λ ws. Working ops meant gives S order (take l.s-index order) ws l.lists.rows.now l.lists.lens) (at_drop_more (λ ws. ws) order l.s-index 0 c.loop-s-test.true) l.invariant in
    let stopped = formed_err (StateList ops gives (list_at l.lists.rows.now l.lists.lens) (state_cost ops meant S s) (frees S s)) (TooLong s) c.state_list.result _ c.in_err-list.ensures.value c.state_list.ensures in
    too_long_at _ _ c.from_residual.result p.0 s p.1 (p.2 ∙ stopped.1) (working_stop ops meant gives S order (take l.s-index order) (drop (l.s-index + 1) order) s l.lists.rows.now l.lists.lens was stopped.0)

pub loop-s-preserved : goal.loop-s-preserved
loop-s-preserved g c =
    let S = says c.args.self.now.sheet.now in
    let ops = g.M.Measure.ops in
    let meant = g.M.Measure.meant in
    let gives = g.R.Reducer.gives in
    let l = c.loop-s in
    let order = c.args.order.now in
    let s = get_or order l.s-index 0 in
    let stored = c.store.new.self in
    let was = subst (λ ws. Working ops meant gives S order (take l.s-index order) ws l.lists.rows.now l.lists.lens) (at_drop_more (λ ws. ws) order l.s-index 0 c.loop-s-test.true) l.invariant in
    let formed = formed_ok (StateList ops gives (list_at l.lists.rows.now l.lists.lens) (state_cost ops meant S s) (frees S s)) (TooLong s) c.state_list.result c.in_ok-list.list c.in_ok-list.ensures.value c.state_list.ensures in
    subst (λ done. Working ops meant gives S order done (drop (l.s-index + 1) order) stored.rows.now stored.lens) (sym (take_more order l.s-index 0 c.loop-s-test.true))
    (working_more ops meant gives S order (take l.s-index order) (drop (l.s-index + 1) order) s l.lists.rows.now l.lists.lens was c.in_ok-list.list.now stored.rows.now stored.lens formed.0 c.store.ensures.stored)

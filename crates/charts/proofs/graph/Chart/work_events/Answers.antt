-- The events, one after another. Assumes nothing.
use Rattle.std.proofs.Common.{◌+◌, ap, ◌∙◌, arith}
use Rattle.std.proofs.lemmas.Result.{err_from_is_err_and}
use Rattle.costs.specs.Entries.{entry_ops}
use Rattle.costs.specs.Lent.{list_at}
use Rattle.sheets.proofs.Forms.{form_of}
use Rattle.charts.specs.Cards.{EventBy}
use Rattle.charts.specs.Naming.{says}
use Rattle.charts.specs.declared.refusal.Refusal.TheVariants.{TooLong}
use Rattle.charts.proofs.Refusing.{formed_ok, formed_err, too_long_at}
use Rattle.charts.proofs.Working.{listing_stop, listing_more}
use Rattle.charts.proofs.graph.Chart.work_events.Goals as goal

pub store-requires : goal.store-requires
store-requires g c =
    let sheet = c.args.self.now.sheet.now in
    let S = says sheet in
    let lists = c.args.lists.now in
    let e = c.loop-e.e in
    let P = EventBy g.M.Measure.ops g.M.Measure.meant g.R.Reducer.gives S S.face.kind (list_at lists.rows.now lists.lens) in
    let few = (form_of sheet.width.bytes sheet.bytes.now sheet.right).few_inputs in
    let inputs = ap (λ f. f.inputs) c.interface.ensures in
    let formed = formed_ok (P e) (TooLong (256 + e)) c.form_event.result c.in_ok-list.list c.in_ok-list.ensures.value c.form_event.ensures in
    (omega arith, (omega (arith, few, inputs), formed.1))

pub returns-in_err-list : goal.returns-in_err-list
returns-in_err-list g c =
    let S = says c.args.self.now.sheet.now in
    let lists = c.args.lists.now in
    let l = c.loop-e in
    let P = EventBy g.M.Measure.ops g.M.Measure.meant g.R.Reducer.gives S S.face.kind (list_at lists.rows.now lists.lens) in
    let inputs = ap (λ f. f.inputs) c.interface.ensures in
    let p = err_from_is_err_and c.from_residual.result c.from_residual.ensures.1 in
    let stopped = formed_err (P l.e) (TooLong (256 + l.e)) c.form_event.result _ c.in_err-list.ensures.value c.form_event.ensures in
    too_long_at _ _ c.from_residual.result p.0 (256 + l.e) p.1 (p.2 ∙ stopped.1) (listing_stop P S.face.inputs l.e (entry_ops g.M.Measure.ops).zero l.card.rows.now l.card.lens l.invariant.listing (omega (arith, inputs)) stopped.0)

pub loop-e-preserved : goal.loop-e-preserved
loop-e-preserved g c =
    let S = says c.args.self.now.sheet.now in
    let lists = c.args.lists.now in
    let l = c.loop-e in
    let P = EventBy g.M.Measure.ops g.M.Measure.meant g.R.Reducer.gives S S.face.kind (list_at lists.rows.now lists.lens) in
    let inputs = ap (λ f. f.inputs) c.interface.ensures in
    let formed = formed_ok (P l.e) (TooLong (256 + l.e)) c.form_event.result c.in_ok-list.list c.in_ok-list.ensures.value c.form_event.ensures in
    record {
      listing = listing_more P S.face.inputs l.e (entry_ops g.M.Measure.ops).zero l.card.rows.now l.card.lens l.invariant.listing (omega (arith, inputs)) c.in_ok-list.list.now c.store.new.self.rows.now c.store.new.self.lens formed.0 c.store.ensures.stored;
      same = c.store.ensures.same_rows ∙ l.invariant.same;
    }

-- Each turn keeps or drops one entry.
use Rattle.std.proofs.Common.{sym, refl, ◌∙◌, arith}
use Rattle.std.proofs.lemmas.List.{length-take}
use Rattle.costs.specs.Reducers.{kept}
use Rattle.costs.specs.EntryLaws.{entry_lawful}
use Rattle.costs.specs.KeepLaws.{turn_takes, turn_drops}
use Rattle.costs.proofs.keep.KeepReducer.reduce.Goals as goal
use Rattle.costs.proofs.keep.KeepReducer.reduce.Goals.{then-not-covered, else-not-covered}

pub loop-x-init : goal.loop-x-init
unfolding kept
loop-x-init g c = (omega arith, refl, refl)

pub loop-x-preserved : goal.loop-x-preserved
loop-x-preserved g c =
    let laws = entry_lawful g.met.M.Measure.lawful in
    let from = c.args.from.now in
    let into = c.loop-x.into in
    let k = c.loop-x.k in
    let i = c.loop-x.x-index in
    let x = c.x-item.result in
    elim c.if-not-covered.branch [
      | then-not-covered w ↦
          let turn = turn_takes laws from into k i x c.loop-x-test.true c.x-item.is c.loop-x.invariant.1 w.retain-k.new.rows w.retain-k.result c.loop-x.invariant.0 (omega (arith, c.requires.room, c.loop-x.auto.into))
          (sym c.covered.ensures ∙ w.if-not-covered.true) w.retain-k.auto.rows w.retain-k.ensures.few w.retain-k.ensures.left in
          rw (w.into-is, w.k-is) (omega (arith, c.loop-x.invariant.0, w.retain-k.ensures.few, length-take k into), turn.0, turn.1 ∙ c.loop-x.invariant.2)
      | else-not-covered w ↦
          rw (w.into-is, w.k-is) (omega (arith, c.loop-x.invariant.0), turn_drops laws from into k i x c.loop-x-test.true c.x-item.is c.loop-x.invariant.1 (sym c.covered.ensures ∙ w.if-not-covered.false), c.loop-x.invariant.2)
    ]

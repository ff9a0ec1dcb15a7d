-- Each turn writes the sums of one entry more, and there is room for them.
use Rattle.std.proofs.Common.{length, refl, add-mul, arith}
use Rattle.costs.specs.Entries.{entry_ops}
use Rattle.costs.proofs.JoinLaws.{sums_more}
use Rattle.costs.proofs.Writes.{written_as, written_again}
use Rattle.costs.proofs.join.join.Goals as goal

pub loop-x-preserved : goal.loop-x-preserved
loop-x-preserved g c =
    let ops = entry_ops g.M.Measure.ops in
    let ys = c.args.ys.now in (
      omega (arith, c.loop-x.invariant.0, add-mul c.loop-x.x-index 1 (length ys)),
      written_as _ _ _ _ _ _ refl (sums_more ops c.args.xs.now ys c.loop-x.x-index c.x-item.result c.loop-x-test.true c.x-item.is)
          (written_again _ c.loop-x.into _ _ _ c.loop-x.at (length ys) c.loop-x.invariant.1 c.add_each.ensures),
    )

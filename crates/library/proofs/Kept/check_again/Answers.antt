-- Checks 4 and 7 in their order, and the names.
use Rattle.std.proofs.Common.{refl, arith}
use Rattle.charts.specs.Naming.{says}
use Rattle.library.specs.Books.{rules}
use Rattle.library.proofs.Reworked.{checked_again}
use Rattle.library.proofs.Kept.check_again.Goals as goal

pub returns : goal.returns
returns g c =
    let sheet = c.args.sheet.now in
    checked_again (rules g.M.Measure.ops g.M.Measure.wide g.M.Measure.meant g.R.Reducer.gives) (says sheet) c.args.self.now.index.now c.args.self.now.cards.now c.args.rows c.args.block
    sheet.width.bytes sheet.bytes.now refl c.in_default.ensures (omega arith) (omega arith) c.check_names.result c.check_names.ensures

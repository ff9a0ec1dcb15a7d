-- The tables are filled, and stand for the empty book.
use Rattle.std.proofs.Common.{◌≡◌, length, replicate, rules as found}
use Rattle.library.specs.Books.{rules, empty}
use Rattle.library.specs.Tables.{no_row}
use Rattle.library.proofs.Begin.{new_stands}
use Rattle.library.proofs.Soundness.{stands_sound}
use Rattle.library.proofs.Library.begin.Goals as goal

pub returns-clause-book : goal.returns-clause-book
returns-clause-book g c =
    let rows = length c.args.self.now.index.now in
    let filled : c.fill-2.new.self ≡ replicate rows no_row = search found in
    let st = new_stands (rules g.M.Measure.ops g.M.Measure.wide g.M.Measure.meant g.R.Reducer.gives) c.fill.new.self c.fill-2.new.self c.fill-3.new.table rows filled in
    (st, stands_sound _ g.met.M.Measure.lawful g.met.R.Reducer.sound empty c.fill.new.self c.fill-2.new.self c.fill-3.new.table st)

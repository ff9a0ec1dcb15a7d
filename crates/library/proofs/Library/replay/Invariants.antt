-- The calls so far are a history, and the tables stay the same ones.
use Rattle.std.proofs.Common.{length}
use Rattle.library.specs.Books.{rules}
use Rattle.library.specs.Lent.{SameTables}
use Rattle.library.specs.Tables.{sizes_of}
use Rattle.library.proofs.Replaying.{Replayed}
use Rattle.library.proofs.Library.replay.Given as goal

abbrev pub invariant-loop-i : goal.invariant-loop-i
invariant-loop-i g l =
    SameTables l.initial.self l.self
    × Replayed (rules g.M.Measure.ops g.M.Measure.wide g.M.Measure.meant g.R.Reducer.gives) (sizes_of l.initial.self.shelf.now l.initial.self.index.now l.initial.self.cards.now) (length l.initial.rows) l.calls
    l.initial.answers l.initial.out l.i l.at l.answers l.out l.self.shelf.now l.self.index.now l.self.cards.now

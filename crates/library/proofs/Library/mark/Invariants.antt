-- The rows before n are marked as they should be.
use Rattle.std.proofs.Common.{◌≡◌}
use Rattle.library.specs.Lent.{SameTables}
use Rattle.library.proofs.Marks.{Marking}
use Rattle.library.proofs.Library.mark.Given as goal

abbrev pub invariant-loop-n : goal.invariant-loop-n
invariant-loop-n g l =
    SameTables l.initial.self l.self × (l.self.shelf.now ≡ l.initial.self.shelf.now) × (l.self.cards.now ≡ l.initial.self.cards.now)
    × Marking g.M.Measure.wide l.initial.self.shelf.now l.block l.n l.initial.self.index.now l.self.index.now

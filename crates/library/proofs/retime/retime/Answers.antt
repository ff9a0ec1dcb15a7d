-- The clause of the method speaks of every content of the cards, so also of these.
use Rattle.std.proofs.Common.{rules}
use Rattle.library.proofs.retime.retime.Goals as goal

pub returns-clause-book : goal.returns-clause-book
returns-clause-book g c = λ cards lent b stands. let d = c.retime.ensures.book cards lent b stands in (d.0, (d.1.0, (search (rules, d.1.1.0), search (rules, d.1.1.1))))

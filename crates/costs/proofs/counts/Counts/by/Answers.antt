-- Each call is of the two counts of one output.
use Rattle.std.proofs.Common.{rules}
use Rattle.costs.proofs.counts.Counts.by.Goals as goal

pub returns : goal.returns
returns g c k l = let made = c.from_fn.ensures.items.at k 0 l in search rules

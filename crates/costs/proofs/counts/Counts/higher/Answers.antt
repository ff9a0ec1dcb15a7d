-- Every count is the greater.
use Rattle.std.proofs.Common.{max, rules}
use Rattle.costs.specs.CountLaws.{counts_by_from}
use Rattle.costs.proofs.counts.Counts.higher.Goals as goal

pub returns : goal.returns
returns c = counts_by_from max _ c.args.self c.args.other c.by.result (λ k l. let made = c.by.ensures k l in search rules)

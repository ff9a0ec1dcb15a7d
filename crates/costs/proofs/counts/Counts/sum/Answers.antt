-- Every count is the sum.
use Rattle.std.proofs.Common.{rules}
use Rattle.costs.specs.Entries.{count_sum}
use Rattle.costs.specs.CountLaws.{counts_by_from}
use Rattle.costs.proofs.counts.Counts.sum.Goals as goal

pub returns : goal.returns
returns c = counts_by_from count_sum _ c.args.self c.args.other c.by.result (λ k l. let made = c.by.ensures k l in search rules)

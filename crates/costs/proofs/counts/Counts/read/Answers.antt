-- Each count is its byte, or zero where there is none.
use Rattle.std.proofs.Common.{◌≡◌, get_or, rules, arith}
use Rattle.costs.specs.CountLaws.{counts_of_at}
use Rattle.costs.specs.Same.{same_counts}
use Rattle.costs.proofs.counts.Counts.read.Goals as goal

pub returns : goal.returns
returns c =
    let bytes = c.args.bytes.now in
    same_counts _ _ (λ k l.
    let made = c.from_fn.ensures.items.at k 0 l in
    let byte : get_or c.from_fn.result k 0 ≡ get_or bytes k 0 = search rules in
    omega (arith, byte, c.type_inv.bytes k, counts_of_at bytes k l))

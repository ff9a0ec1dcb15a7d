-- What `any` answers. Assumes nothing.
use Rattle.std.proofs.Common.{◌≤◌, rules, tests}
use Rattle.std.proofs.lemmas.Iterator.{cases_from_any, YieldsList-from_slice}
use Rattle.costs.specs.Entries.{count}
use Rattle.costs.specs.declared.entry.Entry.{Entry}
use Rattle.networks.proofs.Found.{decides_any}
use Rattle.networks.proofs.graph.is_counted.Goals as goal

pub returns : goal.returns
returns g c =
    let P : Entry g.row.M.Denot → Type 0 = λ e. c.args.least ≤ count e c.args.o in
    decides_any P c.any.result c.args.entries.now
    (cases_from_any _ _ c.any.result P (λ e. P e → ⊥) c.any.ensures.ran (YieldsList-from_slice c.args.entries.now cc) (λ x q k. search (rules, tests)) (λ x q k. (search (rules, tests), λ most. search (rules, tests))))

-- What was joined is what is reduced. Assumes nothing.
use Rattle.std.proofs.Common.{take, ap, ◌∙◌, subst}
use Rattle.costs.specs.Entries.{entry_ops}
use Rattle.costs.specs.Forming.{Reduces}
use Rattle.costs.specs.Lists.{sums}
use Rattle.networks.specs.Forming.{Forms}
use Rattle.networks.proofs.draft.Draft.join.Goals as goal

pub returns : goal.returns
returns g c =
    let draft = c.reduce.new.self in
    let is = c.split_at.ensures.front ∙ c.join-k.ensures.written.front ∙ ap (λ xs. sums (entry_ops g.M.Measure.ops) xs c.args.other.now) c.list.ensures.list in
    subst (λ rows. Forms (Reduces g.R.Reducer.gives rows) (take draft.len draft.rows.now) c.reduce.result) is c.reduce.ensures

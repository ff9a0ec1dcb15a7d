-- Each target with its list. Assumes nothing.
use Rattle.std.proofs.Common.{sym, ap, ◌∙◌, subst}
use Rattle.networks.specs.Cards.{Joins, target_list}
use Rattle.networks.specs.Drafts.{drafted}
use Rattle.networks.specs.Forming.{Forms}
use Rattle.networks.specs.Rows.{table_at}
use Rattle.networks.proofs.room.Room.follow.Goals as goal
use Rattle.sheets.specs.declared.words.End.{End}

pub returns-in-Outside-clause-came : goal.returns-in-Outside-clause-came
returns-in-Outside-clause-came g c =
    let T = table_at c.args.lists.now.rows.now c.args.lists.now.lens in
    subst (λ (t : End). Forms (Joins g.M.Measure.ops g.R.Reducer.gives (drafted c.args.self.now.source) (target_list g.M.Measure.ops T t)) (drafted c.follow_outside.new.self.source) c.follow_outside.result) (sym c.in-Outside.is) c.follow_outside.ensures.came

pub returns-in-Inside-clause-came : goal.returns-in-Inside-clause-came
returns-in-Inside-clause-came g c =
    let T = table_at c.args.lists.now.rows.now c.args.lists.now.lens in
    let is = c.list-list.ensures ∙ sym (ap (target_list g.M.Measure.ops T) c.in-Inside.is) in
    subst (λ ys. Forms (Joins g.M.Measure.ops g.R.Reducer.gives (drafted c.args.self.now.source) ys) (drafted c.join.new.self) c.join.result) is c.join.ensures

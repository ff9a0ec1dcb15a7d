-- The one row is the arrival. Assumes nothing.
use Rattle.std.proofs.Common.{◌∙◌, subst, arith}
use Rattle.costs.proofs.Interface.{set_alone}
use Rattle.networks.specs.Cards.{Joins}
use Rattle.networks.specs.Drafts.{drafted}
use Rattle.networks.specs.Forming.{Forms}
use Rattle.networks.proofs.room.Room.follow_outside.Goals as goal

pub returns-clause-came : goal.returns-clause-came
returns-clause-came g c =
    let is = set_alone c.split_at_mut-front.result.1.now c.arrival.result (omega arith) ∙ c.arrival.ensures in
    subst (λ ys. Forms (Joins g.M.Measure.ops g.R.Reducer.gives (drafted c.args.self.now.source) ys) (drafted c.join.new.self) c.join.result) is c.join.ensures

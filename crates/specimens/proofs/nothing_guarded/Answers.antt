-- From the rules. Assumes nothing.
use Rattle.specimens.proofs.ChartProofs.{nothing_guarded}
use Rattle.specimens.proofs.nothing_guarded.Goals as goal

pub returns : goal.returns
returns g c = nothing_guarded g.M.Measure.ops g.M.Measure.meant g.R.Reducer.gives

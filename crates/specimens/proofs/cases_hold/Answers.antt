-- The worked cases, by computation.
use Rattle.std.proofs.Common.{[], ◌∷◌, refl, ap}
use Rattle.costs.specs.Lists.{merged}
use Rattle.costs.specs.Reducers.{kept, merged_alone}
use Rattle.costs.specs.Same.{same_ticks, same_lists, same_entries}
use Rattle.specimens.proofs.ChartProofs.{two_branches, example_sheet}
use Rattle.specimens.proofs.NetworkCases.{network_cases}
use Rattle.specimens.specs.CostCases.{CostCases}
use Rattle.specimens.proofs.cases_hold.Goals as goal

cost_cases : CostCases
unfolding kept merged_alone merged
cost_cases = record {
  ticks_exact = same_ticks _ _ refl;
  ticks_over = same_ticks _ _ refl;
  memory_greater = refl;
  keep_four = refl;
  merge_four = ap (λ e. e ∷ []) (same_entries _ _ (same_ticks _ _ refl) (same_lists _ _ refl));
}

pub returns : goal.returns
returns c = record { costs = cost_cases; branches = two_branches; example = example_sheet; networks = network_cases }

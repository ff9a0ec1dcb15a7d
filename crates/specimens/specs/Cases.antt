-- The worked cases, gathered and stated once. Assumes nothing.
use Rattle.specimens.specs.ChartCases.{TwoBranches, ExampleSheet}
use Rattle.specimens.specs.CostCases.{CostCases}
use Rattle.specimens.specs.NetworkCases.{NetworkCases}

-- each case, from the rules; that an event which guards nothing has (0; 0) is said for every measure and every reducer beside it
pub record Cases : Type 0 where
  -- sums of ticks and of memory, keep and merge of four entries
  pub costs : CostCases
  -- an event enters a state of cost (2; 0) from which event-free transitions lead to (5; 0) and (1; 1): (7; 0), (3; 1)
  pub branches : TwoBranches
  -- the example sheet: (7; 1)
  pub example : ExampleSheet
  -- two events to (300; 1, 0), (100; 1, 1), by keep and by merge
  pub networks : NetworkCases

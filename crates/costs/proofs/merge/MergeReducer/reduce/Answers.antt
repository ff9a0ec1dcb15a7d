-- The first row is the merged entry.
use Rattle.std.proofs.Common.{[], ◌∷◌, ap, ◌∙◌, arith}
use Rattle.std.proofs.lemmas.List.{take_more_set, drop-set-lt}
use Rattle.costs.specs.Reducers.{merged_alone}
use Rattle.costs.proofs.merge.MergeReducer.reduce.Goals as goal

pub returns : goal.returns
unfolding merged_alone
returns g c = record {
  within = omega arith;
  result = take_more_set c.args.into.now 0 c.highest.result (omega arith) ∙ ap (λ x. x ∷ []) c.highest.ensures;
  rest = drop-set-lt _ c.args.into.now 0 c.highest.result (omega arith);
}

-- What `any` answers is whether the source has a target. Assumes nothing.
use Rattle.std.proofs.Common.{◌≡◌, rules, tests}
use Rattle.std.proofs.lemmas.Iterator.{cases_from_any, YieldsList-from_slice}
use Rattle.std.proofs.lemmas.Bool.Decides.{same_from_decides}
use Rattle.sheets.specs.declared.words.Connection.{Connection}
use Rattle.networks.specs.Networks.{targets}
use Rattle.networks.specs.Rows.{has_some}
use Rattle.networks.proofs.Found.{decides_any}
use Rattle.networks.proofs.Ways.{some_targets}
use Rattle.networks.proofs.net.is_connected.Goals as goal

pub returns : goal.returns
returns c =
    let cs = c.args.cs.now in
    let From : Connection → Type 0 = λ a. a.source ≡ c.args.s in
    same_from_decides c.any.result (has_some (targets cs c.args.s))
    (decides_any From c.any.result cs
    (cases_from_any _ _ c.any.result From (λ a. From a → ⊥) c.any.ensures.ran (YieldsList-from_slice cs cc) (λ x q k. search (rules, tests)) (λ x q k. search (rules, tests))))
    (some_targets cs c.args.s)

-- What `any` answers. Assumes nothing.
use Rattle.std.proofs.Common.{◌≡◌, take, rules, tests}
use Rattle.std.proofs.lemmas.Iterator.{cases_from_any, YieldsList-from_slice}
use Rattle.sheets.specs.declared.words.Connection.{Connection}
use Rattle.networks.specs.Refusals.{nth_connection}
use Rattle.networks.proofs.Found.{decides_any}
use Rattle.networks.proofs.Ways.{among_any, any_among}
use Rattle.networks.proofs.naming.is_repeated.Goals as goal

pub returns : goal.returns
returns c =
    let xs = take c.args.k c.args.cs.now in
    let x = nth_connection c.args.cs.now c.args.k in
    let P : Connection → Type 0 = λ a. a ≡ x in
    let some = decides_any P c.any.result xs
    (cases_from_any _ _ c.any.result P (λ a. P a → ⊥) c.any.ensures.ran (YieldsList-from_slice xs cc) (λ y q k. search (rules, tests)) (λ y q k. search (rules, tests))) in
    (λ e. any_among x xs (some.0 e), λ h. some.1 (among_any x xs h))

-- All actions name something. Assumes nothing.
use Rattle.std.proofs.Common.{[], get_or, refl, sym, rules, arith}
use borrow.Author.Tests.{tests}
use Rattle.std.proofs.lemmas.Iterator.{YieldsList-from_range, cases_from_all}
use Rattle.charts.specs.Charts.{NamedAction, no_action}
use Rattle.charts.specs.Naming.{says}
use Rattle.charts.proofs.Firsts.{all_numbered}
use Rattle.charts.proofs.names.is_state_named.Goals as goal

pub returns : goal.returns
returns c =
    let S = says c.args.sheet.now in
    let xs = get_or S.states c.args.k [] in
    let n = c.actions.result in
    all_numbered (NamedAction S) xs no_action n (sym c.actions.ensures) c.all.result
    (cases_from_all _ _ _ (λ j. NamedAction S (get_or xs j no_action)) (λ j. NamedAction S (get_or xs j no_action) → ⊥) c.all.ensures.ran (YieldsList-from_range 0 n n refl (omega arith)) (λ x q k. search (rules, tests)) (λ x q k. search (rules, tests)))

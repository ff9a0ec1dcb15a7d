-- The first field that has a number that names nothing. Assumes nothing.
use Rattle.std.proofs.Common.{◌≡◌, [], rules}
use borrow.Author.Tests.{tests}
use Rattle.std.specs.List.{AllByRecursion}
use Rattle.std.proofs.lemmas.Result.{err_from_is_err_and, MatchResult-weaker}
use Rattle.charts.specs.Charts.{Named, NamedAction, NamedTransition, NamedEntry, no_transition, no_entry}
use Rattle.charts.specs.Refusals.{number, level, place}
use Rattle.charts.specs.Naming.{says, UnnamedAt, in_state, in_transition, in_entry}
use Rattle.charts.proofs.Firsts.{all_passed, first_failed}
use Rattle.charts.proofs.names.names.Goals as goal

pub returns-in_err-all_named : goal.returns-in_err-all_named
returns-in_err-all_named c =
    let S = says c.args.sheet.now in
    let e = c.in_err-all_named.ensures in
    let p = err_from_is_err_and c.from_residual.result c.from_residual.ensures.1 in
    rw (p.1, p.2) (e.five, e.one, in_state e.k (first_failed (AllByRecursion (NamedAction S)) S.states [] e.k e.first (λ j h. search (rules, tests)) (λ j h. search (rules, tests))) e.at)

pub returns-in_err-all_named-2 : goal.returns-in_err-all_named-2
returns-in_err-all_named-2 c =
    let S = says c.args.sheet.now in
    let states = all_passed (AllByRecursion (NamedAction S)) S.states [] c.in_ok-all_named.ensures (λ j h. search (rules, tests)) in
    let e = c.in_err-all_named-2.ensures in
    let p = err_from_is_err_and c.from_residual-in_err-all_named-2.result c.from_residual-in_err-all_named-2.ensures.1 in
    rw (p.1, p.2) (e.five, e.one, in_transition e.k states (first_failed (NamedTransition S) S.transitions no_transition e.k e.first (λ j h. search (rules, tests)) (λ j h. search (rules, tests))) e.at)

pub returns : goal.returns
returns c =
    let S = says c.args.sheet.now in
    let states = all_passed (AllByRecursion (NamedAction S)) S.states [] c.in_ok-all_named.ensures (λ j h. search (rules, tests)) in
    let transitions = all_passed (NamedTransition S) S.transitions no_transition c.in_ok-all_named-2.ensures (λ j h. search (rules, tests)) in
    let shown = MatchResult-weaker c.all_named-3.result {P' = λ _. Named S} {Q' = λ e. (number e ≡ 5) × (level e ≡ 1) × UnnamedAt c.args.sheet.now (place e)} c.all_named-3.ensures
    (λ _ all. record { states = states; transitions = transitions; entries = all_passed (NamedEntry S) S.entries no_entry all (λ j h. search (rules, tests)) })
    (λ e at. (at.five, at.one, in_entry at.k states transitions (first_failed (NamedEntry S) S.entries no_entry at.k at.first (λ j h. search (rules, tests)) (λ j h. search (rules, tests))) at.at)) in
    search rules

-- The sum of the actions, from the last to the first. Assumes nothing.
use Rattle.std.proofs.Common.{◌≡◌, ℕ, ◌+◌, ◌<◌, [], get_or, sym, ap, ◌∙◌, rules, arith}
use Rattle.std.proofs.lemmas.List.{at_drop_all}
use Rattle.std.proofs.lemmas.Option.{same_Some}
use Rattle.std.proofs.iter.runs.Sources.{range_listed_back}
use Rattle.costs.specs.Entries.{entry_ops}
use Rattle.charts.specs.Charts.{no_action, action_cost, actions_cost, state_cost}
use Rattle.charts.specs.Naming.{says}
use Rattle.charts.proofs.Costs.{summed_down}
use Rattle.charts.proofs.graph.Chart.state_cost.Goals as goal

pub returns : goal.returns
unfolding state_cost
returns g c =
    let S = says c.args.self.now.sheet.now in
    let ops = g.M.Measure.ops in
    let meant = g.M.Measure.meant in
    let xs = get_or S.states c.args.s [] in
    let n = c.actions.result in
    let p = c.fold.ensures.runs in
    let q = c.rev.ensures.runs p.0 p.0.seen p.1 in
    let r = range_listed_back q.0 q.0.seen in
    let is = p.3 (λ cost j. (entry_ops ops).plus (action_cost ops meant S (get_or xs j no_action)) cost) (λ x y r f k. search rules) in
    let js = p.0.items in
    let end : r.1 ≡ n = r.3 ∙ ap (λ range. range.end) q.1 in
    let size : q.0.len ≡ n = omega (arith, r.4.1 (q.2.1 ∙ p.2), r.2, ap (λ range. range.start) q.1, end) in
    let down : (k : ℕ) → k < n → get_or js k 0 + k + 1 ≡ n = λ k below.
    let within : k < q.0.len = omega arith in
    omega (arith, ap (λ l. get_or l k 0) q.2.0.1, same_Some _ _ (sym (q.0.reads k 0 within) ∙ r.4.3 k within), end) in
    is ∙ summed_down ops meant S xs js n c.zero.result (omega (arith, p.0.long, q.2.0.0)) (omega (arith, c.actions.ensures)) down (c.zero.ensures ∙ sym (at_drop_all (actions_cost ops meant S) xs n (omega (arith, c.actions.ensures))))

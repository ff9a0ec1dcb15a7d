-- The list of a state: its cost alone, or joined with what is gathered. Assumes nothing.
use Rattle.std.proofs.Common.{ℕ, ◌≤◌, [], ◌∷◌, length, take, sym, ap, ◌∙◌, subst, rules, arith}
use Rattle.costs.specs.Lent.{list_at}
use Rattle.costs.proofs.Interface.{length_list_at}
use Rattle.charts.specs.Charts.{is_free, state_cost, frees, Leads}
use Rattle.charts.specs.Naming.{says}
use Rattle.charts.proofs.Steps.{state_alone}
use Rattle.charts.proofs.graph.Chart.state_list.Goals as goal

pub returns-then-n-eq0 : goal.returns-then-n-eq0
returns-then-n-eq0 g c =
    let S = says c.args.self.now.sheet.now in
    let lists = c.args.lists.now in
    let T = list_at lists.rows.now lists.lens in
    let ds = frees S c.args.s in
    let gathered = c.gather-n.ensures.rows (is_free c.args.s) (λ t b h. search rules) in
    let some : (d : ℕ) → Leads S c.args.s d → 1 ≤ length (T d) = λ d led. subst (λ n. 1 ≤ n) (sym (length_list_at lists.rows.now lists.lens d lists.lent)) (c.requires.filled d led) in
    let none = sym (ap length gathered) ∙ ap (λ k. length (take k c.gather-n.new.rows)) c.if-n-eq0.true in
    let one = ap length c.alone.ensures in
    (state_alone g.M.Measure.ops g.R.Reducer.gives T (state_cost g.M.Measure.ops g.M.Measure.meant S c.args.s) ds c.alone.result.now some none (c.alone.ensures ∙ ap (λ e. e ∷ []) c.state_cost-cost.ensures), (omega (arith, one), omega (arith, one)))

-- The list of an event: the zero entry, or what is gathered, reduced. Assumes nothing.
use Rattle.std.proofs.Common.{ℕ, ◌≤◌, [], ◌∷◌, length, take, sym, ap, ◌∙◌, subst, rules, arith}
use Rattle.costs.specs.Lent.{list_at}
use Rattle.costs.specs.Lists.{Among}
use Rattle.costs.proofs.Interface.{among_all, length_list_at}
use Rattle.charts.specs.Charts.{is_guarded, guarded, NamedTransition}
use Rattle.charts.specs.Naming.{says}
use Rattle.charts.proofs.Dests.{from_dests}
use Rattle.charts.proofs.Steps.{event_alone}
use Rattle.charts.proofs.graph.Chart.event_list.Goals as goal

pub returns-then-n-eq0 : goal.returns-then-n-eq0
returns-then-n-eq0 g c =
    let S = says c.args.self.now.sheet.now in
    let lists = c.args.lists.now in
    let T = list_at lists.rows.now lists.lens in
    let ds = guarded S c.args.f in
    let gathered = c.gather-n.ensures.rows (is_guarded c.args.f) (λ t b h. search rules) in
    let some : (d : ℕ) → Among d ds → 1 ≤ length (T d) = λ d led.
    let from = from_dests (is_guarded c.args.f) S.transitions d led in
    let state = (among_all (NamedTransition S) from.transition S.transitions c.args.self.now.named.transitions from.listed).destination in
    subst (λ n. 1 ≤ n) (sym (length_list_at lists.rows.now lists.lens d lists.lent)) (c.requires d (omega (arith, state, from.leads))) in
    let none = sym (ap length gathered) ∙ ap (λ k. length (take k c.gather-n.new.rows)) c.if-n-eq0.true in
    let one = ap length c.alone.ensures in
    (event_alone g.M.Measure.ops g.R.Reducer.gives T ds c.alone.result.now some none (c.alone.ensures ∙ ap (λ e. e ∷ []) c.zero.ensures), (omega (arith, one), omega (arith, one)))

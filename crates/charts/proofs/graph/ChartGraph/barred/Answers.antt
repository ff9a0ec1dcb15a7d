-- A way to a state that is not marked. Assumes nothing.
use Rattle.std.proofs.Common.{ℕ, get_or, sym, refl, rules, arith}
use borrow.Author.Tests.{tests}
use Rattle.std.proofs.lemmas.List.FromFn.{fill_by_all}
use Rattle.std.proofs.lemmas.Iterator.{YieldsList-from_range, YieldsList-from_map, first_from_find}
use Rattle.charts.specs.Charts.{no_transition}
use Rattle.charts.specs.Naming.{says}
use Rattle.charts.proofs.Ways.{Open, Closed, open_way}
use Rattle.charts.proofs.graph.ChartGraph.barred.Goals as goal

pub returns : goal.returns
returns g c =
    let S = says c.args.self.now.sheet.now in
    let named = c.args.self.now.named.transitions in
    let k = c.args.k in
    let marks = c.args.marks.now in
    let n = c.count.result in
    let at = λ (t : ℕ). get_or S.transitions t no_transition in
    open_way S named k marks c.find.result _ (sym (fill_by_all at S.transitions n no_transition (sym c.count.ensures) (λ i below. refl)))
    (first_from_find _ _ c.find.result (Open S named k marks) (Closed S named k marks) c.find.ensures.ran
    (YieldsList-from_map _ at (YieldsList-from_range 0 n n c.map.ensures.source (omega arith)) c.map.ensures.closure (λ x r q k. search rules))
    (λ x q k. search (rules, tests)) (λ x q k. search (rules, tests)))
    c.map-2.result (search rules)

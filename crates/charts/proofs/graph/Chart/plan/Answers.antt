-- The order over the states of the chart. Assumes nothing.
use Rattle.std.proofs.Common.{ℕ, ◌≤◌, length, take, sym, ◌∙◌, rules, arith}
use Rattle.std.proofs.lemmas.List.{length-take-le}
use Rattle.std.proofs.lemmas.Result.{MatchResult-weaker}
use Rattle.order.specs.Order.{Below, Complete, Unworkable}
use Rattle.order.specs.Ways.{Endless}
use Rattle.order.proofs.Orders.{complete_as, unworkable_as}
use Rattle.sheets.proofs.Forms.{form_of}
use Rattle.charts.specs.Charts.{State, Leads}
use Rattle.charts.specs.Naming.{says}
use Rattle.charts.proofs.Refusing.{circle_refused}
use Rattle.charts.proofs.graph.Chart.plan.Goals as goal

pub slice_bounds-plan-end : goal.slice_bounds-plan-end
slice_bounds-plan-end g c =
    let sheet = c.args.self.now.sheet.now in
    omega (arith, c.count-n.ensures, (form_of sheet.width.bytes sheet.bytes.now sheet.right).few_states)

pub plan-requires : goal.plan-requires
plan-requires g c =
    let sheet = c.args.self.now.sheet.now in
    let n = c.count-n.result in
    let few = (form_of sheet.width.bytes sheet.bytes.now sheet.right).few_states in
    let size = length-take-le n c.args.marks.now (omega (arith, c.count-n.ensures, few)) in
    record { can = tt; marks = size ∙ c.count-n.ensures; rows = omega (arith, size, c.count-n.ensures, few) }

pub slice_bounds-plan-end-2 : goal.slice_bounds-plan-end-2
slice_bounds-plan-end-2 g c =
    let sheet = c.args.self.now.sheet.now in
    sym (length-take-le c.count-n.result c.args.marks.now (omega (arith, c.count-n.ensures, (form_of sheet.width.bytes sheet.bytes.now sheet.right).few_states)))

pub returns : goal.returns
returns g c =
    let S = says c.args.self.now.sheet.now in
    let L = Leads S in
    let order = c.plan.new.order in
    let to : (k : ℕ) → Below (length S.states) (λ _. Unit {0}) k → State S k = λ k h. h.0 in
    let back : (k : ℕ) → State S k → Below (length S.states) (λ _. Unit {0}) k = λ k h. (h, tt) in
    let orders = MatchResult-weaker c.plan.result {P' = λ k. (k ≤ 32) × Complete (State S) L (take k order)} {Q' = Unworkable (State S) L} c.plan.ensures.order
    (λ k h. (omega (arith, h.within, c.plan.auto.order), complete_as L to back (take k order) h.complete))
    (λ s h. unworkable_as L to back s h) in
    record {
      order = circle_refused _ _ c.plan.result c.map_err.result c.map_err.ensures.cases (λ s e h. search rules) orders;
      circles = circle_refused _ _ c.plan.result c.map_err.result c.map_err.ensures.cases (λ s e h. search rules) (MatchResult-weaker c.plan.result {P' = λ _. Unit {0}} {Q' = Endless L} c.plan.ensures.circles (λ _ _. tt) (λ s h. h));
    }

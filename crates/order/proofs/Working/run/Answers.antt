-- The working order, one node a turn. Assumes nothing.
use Rattle.std.proofs.Common.{◌<◌, true, length, take, set, replicate, false, ◌≡◌, sym, refl, subst, rules, arith}
use Rattle.std.proofs.lemmas.List.{take_more_set}
use Rattle.order.specs.Order.{Below, Order, MarksOf}
use Rattle.order.proofs.Orders.{next_same, stuck_same, order_more, marks_more, falses_set, falses_none, order_none, marks_none}
use Rattle.order.proofs.Working.run.Goals as goal

pub loop-s-init : goal.loop-s-init
loop-s-init g c =
    let marks = c.args.self.now.marks.now in
    let clean : c.fill.new.self ≡ replicate (length marks) false = c.fill.ensures.after (λ y e. search rules) in
    record {
      graph = refl;
      left = rw clean (omega (arith, falses_none (length marks)));
      order = order_none _ _;
      marks = rw clean (marks_none (length marks));
    }

pub bounds-self-s : goal.bounds-self-s
bounds-self-s g c = let next = c.in-Some.ensures in omega (arith, next.node.0, c.loop-s.self.one_each)

pub bounds-order-k : goal.bounds-order-k
bounds-order-k g c =
    let next = c.in-Some.ensures in
    let within : c.in-Some.s < length c.loop-s.self.marks.now = omega (arith, next.node.0, c.loop-s.self.one_each) in
    omega (arith, falses_set c.loop-s.self.marks.now c.in-Some.s within next.unworked, c.loop-s.invariant.left)

pub loop-s-smaller : goal.loop-s-smaller
loop-s-smaller g c =
    let next = c.in-Some.ensures in
    let within : c.in-Some.s < length c.loop-s.self.marks.now = omega (arith, next.node.0, c.loop-s.self.one_each) in
    omega (arith, falses_set c.loop-s.self.marks.now c.in-Some.s within next.unworked)

pub loop-s-preserved : goal.loop-s-preserved
loop-s-preserved g c =
    let l = c.loop-s in
    let s = c.in-Some.s in
    let marks = l.self.marks.now in
    let graph = l.self.graph.now in
    let N = Below (g.G.Graph.nodes graph) (g.G.Graph.node graph) in
    let L = g.G.Graph.leads graph in
    let next = c.in-Some.ensures in
    let inv = l.invariant in
    let within : s < length marks = omega (arith, next.node.0, l.self.one_each) in
    let fewer = falses_set marks s within next.unworked in
    let more = take_more_set l.order l.k s (omega (arith, inv.left)) in
    let next' = next_same N L (λ t. (inv.marks t).0) (λ t. (inv.marks t).1) next in
    record {
      graph = inv.graph;
      left = omega (arith, inv.left);
      order = subst (Order N L) (sym more) (order_more N L (take l.k l.order) s inv.order next');
      marks = subst (MarksOf (set marks s true)) (sym more) (marks_more marks (take l.k l.order) s within inv.marks);
    }

pub returns : goal.returns
returns g c =
    let l = c.loop-s in
    let graph = l.self.graph.now in
    let inv = l.invariant in
    record {
      graph = inv.graph;
      within = omega (arith, inv.left);
      order = inv.order;
      marks = inv.marks;
      none = stuck_same (Below (g.G.Graph.nodes graph) (g.G.Graph.node graph)) (g.G.Graph.leads graph) (λ t. (inv.marks t).0) (λ t. (inv.marks t).1) c.in_default.ensures;
    }

-- What the loop keeps: the order so far, its marks, and how many are left. Assumes nothing.
use Rattle.std.proofs.Common.{◌≡◌, ◌+◌, length, take}
use Rattle.order.specs.Order.{Below, Order, MarksOf, falses}
use Rattle.order.proofs.Working.run.Given as goal

abbrev pub invariant-loop-s : goal.invariant-loop-s
invariant-loop-s g l = record {
  graph : l.self.graph.now ≡ l.fn.self.graph.now;
  left : l.k + falses l.self.marks.now ≡ length l.fn.self.marks.now;
  order : Order (Below (g.G.Graph.nodes l.self.graph.now) (g.G.Graph.node l.self.graph.now)) (g.G.Graph.leads l.self.graph.now) (take l.k l.order);
  marks : MarksOf l.self.marks.now (take l.k l.order);
}

abbrev pub decreases-loop-s : goal.decreases-loop-s
decreases-loop-s g l = falses l.self.marks.now

-- The plan from the working order and the lowest unmarked node. Assumes nothing.
use Rattle.std.proofs.Common.{take, subst}
use Rattle.order.specs.Order.{Below, Complete, Unworkable}
use Rattle.order.proofs.Circles.{no_circle, endless}
use Rattle.order.proofs.plan.Goals as goal

pub returns-in-Some : goal.returns-in-Some
returns-in-Some g c =
    let made = c.run-count.ensures in
    let found = c.in-Some.ensures in
    let stuck = subst (λ h. Unworkable (Below (g.G.Graph.nodes h) (g.G.Graph.node h)) (g.G.Graph.leads h) c.in-Some.s) made.graph (record {
      ws = take c.run-count.result c.run-count.new.order;
      order = made.order;
      none = made.none;
      node = found.0;
      unworked = λ h. found.1.0 ((made.marks _).1 h);
      lowest = λ t below node. (made.marks t).0 (found.1.1 t below node);
    }) in
    record { order = stuck; circles = endless c.in-Some.s stuck }

pub returns-in-None : goal.returns-in-None
returns-in-None g c =
    let made = c.run-count.ensures in
    let all = subst (λ h. Complete (Below (g.G.Graph.nodes h) (g.G.Graph.node h)) (g.G.Graph.leads h) (take c.run-count.result c.run-count.new.order)) made.graph (record {
      order = made.order;
      all = λ t node. (made.marks t).0 (c.in-None.ensures t node);
    }) in
    record { order = record { within = made.within; complete = all }; circles = no_circle all }

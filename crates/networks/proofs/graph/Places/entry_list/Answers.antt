-- One output more. Assumes nothing.
use Rattle.std.proofs.Common.{◌+◌, drop, sym, refl, subst, arith}
use Rattle.networks.proofs.Steps.{all_long, all_on, outputs_all, outputs_more}
use Rattle.networks.proofs.graph.Places.entry_list.Goals as goal
use Rattle.networks.specs.Cards.{Sends, SendsAll}
use Rattle.networks.specs.Drafts.{drafted}
use Rattle.networks.specs.Forming.{list, long}
use Rattle.networks.specs.Networks.{outputs, targets}
use Rattle.networks.specs.Rows.{table_at}
use Rattle.sheets.specs.declared.words.End.TheVariants.{Inside}

pub returns-in_err-send : goal.returns-in_err-send
returns-in_err-send g c =
    let l = c.loop-port in
    let cs = c.args.self.now.net.connections.now in
    let T = table_at c.args.lists.now.rows.now c.args.lists.now.lens in
    let xs = drafted l.room.list in
    rw c.from_residual.ensures (l.invariant long (all_long g.M.Measure.ops g.R.Reducer.gives T cs c.args.i c.args.e (drop l.port outputs) l.port (drop (l.port + 1) outputs) xs (outputs_more l.port (omega arith))
    (subst (λ n. Sends g.M.Measure.ops g.R.Reducer.gives T (targets cs (Inside c.args.i l.port)) n xs long) c.count-n.ensures c.in_err-send.ensures)))

pub loop-port-preserved : goal.loop-port-preserved
loop-port-preserved g c q rest =
    let l = c.loop-port in
    let cs = c.args.self.now.net.connections.now in
    let T = table_at c.args.lists.now.rows.now c.args.lists.now.lens in
    let xs = drafted l.room.list in
    let ys = drafted c.send.new.room.list in
    l.invariant q (all_on g.M.Measure.ops g.R.Reducer.gives T cs c.args.i c.args.e (drop l.port outputs) l.port (drop (l.port + 1) outputs) xs ys (outputs_more l.port (omega arith))
    (subst (λ n. Sends g.M.Measure.ops g.R.Reducer.gives T (targets cs (Inside c.args.i l.port)) n xs (list ys)) c.count-n.ensures c.in_ok-send.ensures) q rest)

pub returns : goal.returns
returns g c =
    let l = c.loop-port in
    let xs = drafted l.room.list in
    l.invariant (list xs) (subst (λ os. SendsAll g.M.Measure.ops g.R.Reducer.gives (table_at c.args.lists.now.rows.now c.args.lists.now.lens) c.args.self.now.net.connections.now c.args.i c.args.e os xs (list xs)) (sym (outputs_all l.port (omega arith))) refl)

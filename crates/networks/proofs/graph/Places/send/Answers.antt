-- A connected source that is counted. Assumes nothing.
use Rattle.std.proofs.Common.{sym, ◌∙◌, subst, arith}
use Rattle.networks.proofs.Steps.{forms_as, sends_on}
use Rattle.networks.proofs.graph.Places.send.Goals as goal
use Rattle.networks.specs.Cards.{Sends, Times}
use Rattle.networks.specs.Drafts.{drafted}
use Rattle.networks.specs.Forming.{Forms}
use Rattle.networks.specs.Networks.{targets}
use Rattle.networks.specs.Rows.{table_at}

pub returns : goal.returns
returns g c =
    let ops = g.M.Measure.ops in
    let gives = g.R.Reducer.gives in
    let n = c.args.n in
    let T = table_at c.args.lists.now.rows.now c.args.lists.now.lens in
    let ts = targets c.args.self.now.net.connections.now c.args.s in
    let xs = drafted c.args.room.now.list in
    let ys = drafted c.source_list.new.room.source in
    let zs = drafted c.join_times.new.self.list in
    forms_as (Times ops gives n ys xs) (Sends ops gives T ts n xs) zs (sends_on ops gives T ts n xs ys (sym c.is_connected.ensures ∙ c.if-not-is_connected.false) (omega arith) c.in_ok-source_list.ensures.came) c.join_times.result
    (subst (λ l. Forms (Times ops gives n ys l) zs c.join_times.result) c.source_list.ensures.list c.join_times.ensures)

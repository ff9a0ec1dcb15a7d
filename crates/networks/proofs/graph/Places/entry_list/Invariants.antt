-- What the loop keeps: what is left of the outputs gives what all give. Assumes nothing.
use Rattle.std.proofs.Common.{drop}
use Rattle.costs.specs.declared.entry.Entry.{Entry}
use Rattle.costs.specs.Forming.{Formation}
use Rattle.networks.specs.Cards.{EntryList, SendsAll}
use Rattle.networks.specs.Drafts.{drafted}
use Rattle.networks.specs.Networks.{outputs}
use Rattle.networks.specs.Rows.{table_at}
use Rattle.networks.proofs.graph.Places.entry_list.Given as goal

abbrev pub invariant-loop-port : goal.invariant-loop-port
invariant-loop-port g l =
    let cs = l.self.net.connections.now in
    let T = table_at l.lists.rows.now l.lists.lens in
    (q : Formation (Entry g.row.M.Denot)) → SendsAll g.M.Measure.ops g.R.Reducer.gives T cs l.i l.e (drop l.port outputs) (drafted l.room.list) q → EntryList g.M.Measure.ops g.R.Reducer.gives T cs l.i l.e q

-- What the loop keeps: what is left of the targets gives what all give. Assumes nothing.
use Rattle.std.proofs.Common.{◌≡◌, drop}
use Rattle.std.specs.List.{AllByRecursion}
use Rattle.costs.specs.declared.entry.Entry.{Entry}
use Rattle.costs.specs.Forming.{Formation}
use Rattle.networks.specs.Cards.{Follows, SourceList}
use Rattle.networks.specs.Drafts.{drafted}
use Rattle.networks.specs.Networks.{targets}
use Rattle.networks.specs.Rows.{Filled, table_at}
use Rattle.networks.proofs.graph.Places.source_list.Given as goal

abbrev pub invariant-loop-c : goal.invariant-loop-c
invariant-loop-c g l =
    let cs = l.self.net.connections.now in
    let T = table_at l.lists.rows.now l.lists.lens in
    AllByRecursion (Filled l.lists.lens) (targets (drop l.c-index cs) l.s)
    × (drafted l.room.list ≡ drafted l.fn.room.list)
    × ((o : Formation (Entry g.row.M.Denot)) → Follows g.M.Measure.ops g.R.Reducer.gives T (targets (drop l.c-index cs) l.s) (drafted l.room.source) o → SourceList g.M.Measure.ops g.R.Reducer.gives T (targets cs l.s) o)

-- The pile is reduced. Assumes nothing.
use Rattle.std.proofs.Common.{◌/◌, ◌%◌, List, sym, subst}
use Rattle.std.proofs.lemmas.List.{drop_all}
use Rattle.costs.specs.declared.entry.Entry.{Entry}
use Rattle.networks.proofs.Steps.{forms_as}
use Rattle.networks.proofs.graph.Places.place_list.Goals as goal
use Rattle.networks.specs.Cards.{Entries, PlaceList}
use Rattle.networks.specs.Drafts.{drafted, piled}
use Rattle.networks.specs.Forming.{Reduces}
use Rattle.networks.specs.Rows.{table_at}

pub returns : goal.returns
returns g c =
    let l = c.loop-e in
    let ops = g.M.Measure.ops in
    let gives = g.R.Reducer.gives in
    let cs = c.args.self.now.net.connections.now in
    let i = c.args.k / 8 in
    let T = table_at c.args.lists.now.rows.now c.args.lists.now.lens in
    let items = c.card-e-items.result.now in
    let card : List (Entry g.row.M.Denot) = g.B.Beneath.cards c.args.self.now.beneath.now i (c.args.k % 8) in
    forms_as (Reduces gives c.entries.result.now) (PlaceList ops gives T cs i card) (drafted c.reduce.new.self)
    (λ q h. subst (λ es. PlaceList ops gives T cs i es q) c.card-e-items.ensures
    (l.invariant.2 q (subst (λ left. Entries ops gives T cs i left (piled l.pile) q) (sym (drop_all l.e-index items c.loop-e-test.false)) (subst (λ zs. Reduces gives zs q) c.entries.ensures h))))
    c.reduce.result c.reduce.ensures

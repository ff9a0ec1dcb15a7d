-- One connection more. Assumes nothing.
use Rattle.std.proofs.Common.{◌+◌, get_or, drop, sym, ap, ◌∙◌, subst}
use Rattle.std.specs.List.{AllByRecursion}
use Rattle.networks.proofs.Steps.{follows_on, targets_hit, targets_miss}
use Rattle.networks.proofs.Ways.{derived_end}
use Rattle.networks.proofs.graph.Places.source_list.Goals as goal
use Rattle.networks.proofs.graph.Places.source_list.Goals.{then-eq+in_ok-follow, else-eq}
use Rattle.networks.specs.Cards.{Follows}
use Rattle.networks.specs.Drafts.{drafted}
use Rattle.networks.specs.Networks.{targets}
use Rattle.networks.specs.Refusals.{no_connection}
use Rattle.networks.specs.Rows.{Filled, table_at}

pub loop-c-preserved : goal.loop-c-preserved
loop-c-preserved g c =
    let l = c.loop-c in
    let cs = c.args.self.now.net.connections.now in
    let i = l.c-index in
    let s = c.args.s in
    let ops = g.M.Measure.ops in
    let gives = g.R.Reducer.gives in
    let lens = c.args.lists.now.lens in
    let T = table_at c.args.lists.now.rows.now lens in
    let this = get_or cs i no_connection in
    let rest = targets (drop (i + 1) cs) s in
    elim c.if-eq.branch [
      | then-eq+in_ok-follow w ↦
          (let hit = targets_hit cs i no_connection s c.loop-c-test.true (sym (derived_end this.source s) ∙ sym w.if-eq.ensures) in
          let made = ap (λ r. drafted r.source) w.room-is in (
            (subst (AllByRecursion (Filled lens)) hit l.invariant.0).1,
            ap (λ r. drafted r.list) w.room-is ∙ w.follow.ensures.list ∙ l.invariant.1,
            λ o q. l.invariant.2 o (follows_on ops gives T (targets (drop i cs) s) this.target rest (drafted l.room.source) (drafted w.follow.new.self.source) hit w.in_ok-follow.ensures.came o (subst (λ xs. Follows ops gives T rest xs o) made q)),
          ))
      | else-eq w ↦
          (let miss = targets_miss cs i no_connection s c.loop-c-test.true (sym (derived_end this.source s) ∙ sym w.if-eq.ensures) in
          let made = ap (λ r. drafted r.source) w.room-is in (
            subst (AllByRecursion (Filled lens)) miss l.invariant.0,
            ap (λ r. drafted r.list) w.room-is ∙ l.invariant.1,
            λ o q. l.invariant.2 o (subst (λ ts. Follows ops gives T ts (drafted l.room.source) o) (sym miss) (subst (λ xs. Follows ops gives T rest xs o) made q)),
          ))
    ]

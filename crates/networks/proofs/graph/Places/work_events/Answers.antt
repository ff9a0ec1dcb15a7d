-- The first event that is not formed. Assumes nothing.
use Rattle.std.proofs.Common.{◌+◌, refl, sym, subst}
use Rattle.std.proofs.lemmas.Result.{err_from_is_err_and}
use Rattle.networks.proofs.Finish.{refused_long}
use Rattle.networks.proofs.graph.Places.work_events.Goals as goal
use Rattle.networks.specs.Cards.{EventList}
use Rattle.networks.specs.Drafts.{drafted}
use Rattle.networks.specs.Forming.{Forms}
use Rattle.networks.specs.Refusals.{Refused}
use Rattle.networks.specs.Rows.{EventStop, list_at, table_at}
use Rattle.networks.specs.declared.refusal.Refusal.TheVariants.{TooLong}

pub returns-in_err-ok_or-clause-events : goal.returns-in_err-ok_or-clause-events
returns-in_err-ok_or-clause-events g c =
    let l = c.loop-e in
    let ops = g.M.Measure.ops in
    let gives = g.R.Reducer.gives in
    let net = c.args.self.now.net in
    let cs = net.connections.now in
    let T = table_at c.args.lists.now.rows.now c.args.lists.now.lens in
    let is = refused_long c.source_list.result (TooLong (256 + l.e)) c.in_err-ok_or.field-0.0 c.in_err-ok_or.ensures.value in
    let p = err_from_is_err_and c.from_residual.result c.from_residual.ensures.1 in
    rw (p.1, p.2) (subst (Refused 10 3 (EventStop ops gives T cs net.inputs)) (sym is) (record {
      number_is = refl;
      level_is = refl;
      place_is = record {
        event = l.e;
        number = refl;
        within = c.loop-e-test.true;
        before = λ d h. (list_at l.results.rows.now l.results.lens d, l.invariant.4 d h);
        stopped = subst (Forms (EventList ops gives T cs l.e) (drafted c.source_list.new.room.source)) c.in_err-ok_or.ensures.ok_part c.source_list.ensures.came;
      };
    }))

-- One place more. Assumes nothing.
use Rattle.std.proofs.Common.{ℕ, ◌+◌, ◌*◌, ◌/◌, ◌%◌, ◌≤◌, List, get_or, take, sym, refl, ap, ◌∙◌, subst, arith}
use Rattle.std.proofs.lemmas.List.{take_more, take_all}
use Rattle.std.proofs.lemmas.Result.{err_from_is_err_and}
use Rattle.std.specs.List.{ContainsAt as Has}
use Rattle.costs.proofs.Interface.{length_list_at}
use Rattle.costs.specs.Lists.{Sized}
use Rattle.costs.specs.declared.entry.Entry.{Entry}
use Rattle.order.proofs.Orders.{order_take}
use Rattle.networks.proofs.Forming.{formed_more, reach}
use Rattle.networks.proofs.Finish.{refused_long}
use Rattle.networks.proofs.Places.{whole}
use Rattle.networks.proofs.graph.Places.work_places.Goals as goal
use Rattle.networks.specs.Cards.{Formed, PlaceList, TooLongAt}
use Rattle.networks.specs.Drafts.{drafted}
use Rattle.networks.specs.Forming.{list, Forms}
use Rattle.networks.specs.Networks.{Leads, Node}
use Rattle.networks.specs.Refusals.{Refused}
use Rattle.networks.specs.declared.refusal.Refusal.TheVariants.{TooLong}
use Rattle.networks.specs.Rows.{Filled, list_at, net_of, table_at}

pub place_list-requires : goal.place_list-requires
place_list-requires g c =
    let l = c.loop-k in
    let places = c.args.self.now in
    let given = places.given in
    let k = get_or c.args.order.now l.k-index 0 in
    let net = net_of places.net (g.B.Beneath.faces places.beneath.now) in
    let card : ℕ → ℕ → List (Entry g.row.M.Denot) = g.B.Beneath.cards places.beneath.now in
    let next = c.requires l.k-index c.loop-k-test.true in
    let lens = l.lists.lens in
    let filled : (m : ℕ) → Has (take l.k-index c.args.order.now) m → 1 ≤ get_or lens m 0 =
    λ m h. omega (arith, (l.invariant m h).sized.0, length_list_at l.lists.rows.now lens (8 * (m / 8) + m % 8) l.lists.lent, ap (λ d. get_or lens d 0) (whole m)) in
    (omega arith, (next.node, reach net given.outputs card given.named given.fit.narrow k (Filled lens) (λ p low. low) (λ j h place leads. filled (8 * j + h) (next.ready (8 * j + h) leads))))

pub returns-in_err-ok_or : goal.returns-in_err-ok_or
returns-in_err-ok_or g c =
    let l = c.loop-k in
    let places = c.args.self.now in
    let order = c.args.order.now in
    let k = get_or order l.k-index 0 in
    let net = net_of places.net (g.B.Beneath.faces places.beneath.now) in
    let card : ℕ → ℕ → List (Entry g.row.M.Denot) = g.B.Beneath.cards places.beneath.now in
    let ops = g.M.Measure.ops in
    let gives = g.R.Reducer.gives in
    let T = table_at l.lists.rows.now l.lists.lens in
    let is = refused_long c.place_list.result (TooLong k) c.in_err-ok_or.field-0.0 c.in_err-ok_or.ensures.value in
    let p = err_from_is_err_and c.from_residual.result c.from_residual.ensures.1 in
    rw (p.1, p.2) (subst (Refused 10 3 (TooLongAt ops gives net card)) (sym is) (record {
      number_is = refl;
      level_is = refl;
      place_is = record {
        ws = take l.k-index order;
        order = order_take (Node net) (Leads net card) order l.k-index c.requires;
        next = c.requires l.k-index c.loop-k-test.true;
        table = T;
        before = l.invariant;
        stopped = subst (Forms (PlaceList ops gives T net.connections (k / 8) (card (k / 8) (k % 8))) (drafted c.place_list.new.room.list)) c.in_err-ok_or.ensures.ok_part c.place_list.ensures;
      };
    }))

pub loop-k-preserved : goal.loop-k-preserved
loop-k-preserved g c =
    let l = c.loop-k in
    let places = c.args.self.now in
    let given = places.given in
    let order = c.args.order.now in
    let k = get_or order l.k-index 0 in
    let net = net_of places.net (g.B.Beneath.faces places.beneath.now) in
    let card : ℕ → ℕ → List (Entry g.row.M.Denot) = g.B.Beneath.cards places.beneath.now in
    let ops = g.M.Measure.ops in
    let gives = g.R.Reducer.gives in
    let A = list_at l.lists.rows.now l.lists.lens in
    let after = c.store.new.self in
    let B = list_at after.rows.now after.lens in
    let stored = c.store.ensures.stored in
    let len = length_list_at after.rows.now after.lens k stored.lent in
    let sized : Sized (B k) = (omega (arith, stored.worked, len), omega (arith, stored.lent.short k, len)) in
    let new : PlaceList ops gives (table_at l.lists.rows.now l.lists.lens) net.connections (k / 8) (card (k / 8) (k % 8)) (list (B k)) =
    subst (λ es. PlaceList ops gives (table_at l.lists.rows.now l.lists.lens) net.connections (k / 8) (card (k / 8) (k % 8)) (list es)) (sym (stored.result ∙ c.list.ensures.list))
    (subst (Forms (PlaceList ops gives (table_at l.lists.rows.now l.lists.lens) net.connections (k / 8) (card (k / 8) (k % 8))) (drafted c.place_list.new.room.list)) c.in_ok-ok_or.ensures.ok_part c.place_list.ensures) in
    subst (λ ws. (m : ℕ) → Has ws m → Formed ops gives net card (λ i f. B (8 * i + f)) (m / 8) (m % 8)) (sym (take_more order l.k-index 0 c.loop-k-test.true))
    (formed_more net given.outputs card given.named given.fit.narrow ops gives (take l.k-index order) k A B (order_take (Node net) (Leads net card) order l.k-index c.requires) (c.requires l.k-index c.loop-k-test.true) l.invariant new sized stored.others)

pub returns : goal.returns
returns g c m has = c.loop-k.invariant m (subst (λ ws. Has ws m) (sym (take_all c.loop-k.k-index c.args.order.now c.loop-k-test.false)) has)

-- The tables begin as `begin` leaves them, and each call goes on.
use Rattle.std.proofs.Common.{◌≡◌, length, take, drop, ◌∙◌, subst, arith}
use Rattle.std.proofs.lemmas.List.{length-take-le, get_or-take}
use Rattle.library.proofs.Passing.{same_tables, tables_then}
use Rattle.library.proofs.Replaying.{replayed_none, replayed_next, replayed_all, same_sizes}
use Rattle.library.proofs.Stepping.{fixed}
use Rattle.library.proofs.Library.replay.Goals as goal

pub loop-i-init : goal.loop-i-init
loop-i-init g c = (same_tables _, replayed_none _ _ _ _ _ _ _ _ _ c.begin.ensures.book.0 c.begin.ensures.book.1)

pub loop-i-preserved : goal.loop-i-preserved
loop-i-preserved g c =
    let k = c.loop-i.auto in
    let T = c.loop-i.invariant.0 in
    let call = c.call-item.result in
    let calls = c.args.calls.now in
    let all : length (take c.min-count.result calls) ≡ c.min-count.result = length-take-le c.min-count.result calls (omega (arith, c.min-count.ensures)) in
    let new = c.apply.new.self in (
      tables_then T c.apply.ensures.tables,
      replayed_next call (length c.loop-i.rows) c.taken-at.result c.apply.new.left c.apply.result new.shelf.now new.index.now new.cards.now c.loop-i.invariant.1
          (omega arith) (omega arith) (c.call-item.is ∙ get_or-take c.min-count.result calls c.loop-i.i call (omega arith)) k.out (same_sizes T.shelf_length T.index_length T.cards_length) k.rows c.taken-at.ensures c.apply.auto.left c.apply.ensures.rest c.apply.ensures.book,
    )

pub returns : goal.returns
returns g c =
    let T = c.begin.ensures.tables in
    let all : length (take c.min-count.result c.args.calls.now) ≡ c.min-count.result = length-take-le c.min-count.result c.args.calls.now (omega (arith, c.min-count.ensures)) in
    let k = replayed_all {n = c.min-count.result} (omega (arith, all)) (same_sizes T.shelf_length T.index_length T.cards_length) c.loop-i.invariant.1 in
    record {
      tables = tables_then T c.loop-i.invariant.0;
      count = c.min-count.ensures;
      law = (k.book, (k.history, (k.stands, k.sound)));
      fixed = λ b st. fixed _ b st.book;
      answers = k.unanswered;
      out = subst (λ p. drop p c.loop-i.out ≡ drop p c.args.out.now) k.cursor_is k.rest;
    }

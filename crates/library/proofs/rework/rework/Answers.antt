-- The card that was worked again, written, keeps the promise of rework.
use Rattle.std.proofs.Common.{◌≡◌, ◌*◌, length, take, Ok, MatchOption, subst}
use Rattle.std.proofs.lemmas.Bool.{true≢false}
use Rattle.library.specs.Books.{rules}
use Rattle.library.specs.Placing.{lent_of, Settled, Reworked}
use Rattle.library.specs.Tables.{overwritten}
use Rattle.library.proofs.rework.rework.Goals as goal

pub returns : goal.returns
returns g c =
    let R = rules g.M.Measure.ops g.M.Measure.wide g.M.Measure.meant g.R.Reducer.gives in
    let shelf = c.args.shelf.now in
    let index = c.args.index.now in
    let cards = c.args.cards.now in
    let lent = lent_of (length c.args.rows.now) 0 in
    let block = c.args.block in
    let worked : Reworked R lent block shelf index cards c.again.new.rows c.in-Some.lens =
    subst (λ o. MatchOption o (Settled R lent block shelf index cards (Ok tt) index cards) (λ lens. Reworked R lent block shelf index cards c.again.new.rows lens)) c.in-Some.is c.in_ok-lens.ensures in
    let done = worked.written c.redo.new.index c.redo.new.cards c.redo.ensures.index (subst (λ r. c.redo.new.cards ≡ overwritten cards (128 * block) (take 128 r)) c.split_at.ensures.back c.redo.ensures.cards) in
    record { same = λ z. absurd (true≢false z); answer = done.answer; index = done.index_is; cards = done.cards_is; book = done.book }

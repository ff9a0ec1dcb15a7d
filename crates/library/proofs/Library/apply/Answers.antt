-- Each call's own promise.
use Rattle.std.proofs.Common.{◌≡◌, ◌≤◌, min, ◌++◌, length, take, drop, sym, refl, ap, ◌∙◌, subst, arith, rules}
use Rattle.std.proofs.lemmas.List.{length-take-le}
use Rattle.networks.specs.Rows.{list_at}
use Rattle.library.specs.Calls.{asked, lent_to, replied, taken}
use Rattle.library.specs.Books.{rules as laws}
use Rattle.library.specs.Checks.{Lent}
use Rattle.library.specs.Law.{GoesOn}
use Rattle.library.specs.Replies.{reply}
use Rattle.library.specs.Steps.{preview, card, retime, entered, done, previewed, shown}
use Rattle.library.specs.declared.calls.Accepted.TheVariants.{Entered, Previewed, Done, Shown}
use Rattle.library.proofs.Applying.{goes_as, plain_book, lent_part, same_lent, written_rest, written_book, previewed_room, shown_room}
use Rattle.library.proofs.Passing.{over, same_tables}
use Rattle.library.proofs.Library.apply.Goals as goal

pub returns-in-Enter : goal.returns-in-Enter
returns-in-Enter g c = record {
  tables = c.enter.ensures.tables;
  rest = λ b st. refl;
  book = plain_book Entered entered (λ x xs. refl) (length c.args.rows.now) (length c.args.left.now) c.args.call.now _ _ c.map.result c.enter.result c.in-Enter.is (search rules)
      (same_lent (lent_part c.min-n.result c.in-Enter.lent c.args.rows.now c.min-n.ensures) (omega arith)) c.enter.ensures.book;
}

pub returns-in-Retime : goal.returns-in-Retime
returns-in-Retime g c =
    let R = laws g.M.Measure.ops g.M.Measure.wide g.M.Measure.meant g.R.Reducer.gives in
    let old = c.args.self.now in
    let new = c.retime.new.self in
    let none : Lent = record { rows = min 0 (length c.args.rows.now); out = min 0 (min 0 (length c.args.left.now)) } in
    let goes = subst (λ d. GoesOn R (retime c.in-Retime.block c.in-Retime.algorithm c.in-Retime.amount.now) none (reply (λ _. done) c.retime.result) old.shelf.now old.index.now old.cards.now new.shelf.now new.index.now d)
    (sym c.retime.ensures.cards) (c.retime.ensures.book old.cards.now none) in
    record {
      tables = c.retime.ensures.tables;
      rest = λ b st. refl;
      book = plain_book (λ _. Done) (λ _. done) (λ x xs. refl) (length c.args.rows.now) (length c.args.left.now) c.args.call.now _ _ c.map-in-Retime.result c.retime.result c.in-Retime.is (search rules)
          refl goes;
    }

pub returns-in-Rework : goal.returns-in-Rework
returns-in-Rework g c = record {
  tables = c.rework.ensures.tables;
  rest = λ b st. refl;
  book = plain_book (λ _. Done) (λ _. done) (λ x xs. refl) (length c.args.rows.now) (length c.args.left.now) c.args.call.now _ _ c.map-in-Rework.result c.rework.result c.in-Rework.is (search rules)
      (same_lent (lent_part c.min-n-in-Rework.result c.in-Rework.lent c.args.rows.now c.min-n-in-Rework.ensures) (omega arith)) c.rework.ensures.book;
}

pub returns-in-Preview : goal.returns-in-Preview
returns-in-Preview g c =
    let left = c.args.left.now in
    let o = c.in-Preview.out in
    let m = c.min-m.result in
    let cut : m ≡ min 128 (min o (length left)) = omega (arith, c.min.ensures, c.min-m.ensures) in
    let fit : length (take m left) ≡ m = length-take-le m left (omega arith) in
    let long : length c.open_preview.new.out ≡ m = c.open_preview.auto.out ∙ fit in
    let is = ap (taken (length left)) c.in-Preview.is in
    let R = laws g.M.Measure.ops g.M.Measure.wide g.M.Measure.meant g.R.Reducer.gives in
    let lent : Lent = record { rows = length (take c.min-n-in-Preview.result c.args.rows.now); out = length (take m left) } in
    let goes = over (λ s i d. GoesOn R (preview c.in-Preview.width.bytes c.in-Preview.sheet.now) lent (reply (λ lens. previewed (list_at c.open_preview.new.out lens)) c.open_preview.result) s i d s i d)
    c.kept.ensures.shelf c.kept.ensures.index c.kept.ensures.cards c.open_preview.ensures.book in
    record {
      tables = same_tables _;
      rest = written_rest (λ xs lens. previewed (list_at xs lens)) 128 o m (taken (length left) c.args.call.now) left c.open_preview.new.out cut long is
          (λ x b d st. subst (λ z. 128 ≤ z) fit (previewed_room st)) c.open_preview.result c.open_preview.ensures.same goes;
      book = goes_as (ap asked c.in-Preview.is)
          (ap (lent_to (length c.args.rows.now) (length left)) c.in-Preview.is
          ∙ same_lent (lent_part c.min-n-in-Preview.result c.in-Preview.lent c.args.rows.now c.min-n-in-Preview.ensures) (sym cut ∙ sym fit))
          (ap (λ a. replied a (take (taken (length left) c.args.call.now) (c.open_preview.new.out ++ drop m left))) (search rules))
          (written_book Previewed (λ xs lens. previewed (list_at xs lens)) (λ x xs. refl) 128 o m (taken (length left) c.args.call.now) left c.open_preview.new.out cut long is
          (λ x b d st. subst (λ z. 128 ≤ z) fit (previewed_room st)) c.open_preview.result goes);
    }

pub returns-in-Card : goal.returns-in-Card
returns-in-Card g c =
    let left = c.args.left.now in
    let o = c.in-Card.out in
    let m = c.min-m-in-Card.result in
    let cut : m ≡ min 16 (min o (length left)) = omega (arith, c.min-in-Card.ensures, c.min-m-in-Card.ensures) in
    let fit : length (take m left) ≡ m = length-take-le m left (omega arith) in
    let long : length c.card.new.out ≡ m = c.card.auto.out ∙ fit in
    let is = ap (taken (length left)) c.in-Card.is in
    let R = laws g.M.Measure.ops g.M.Measure.wide g.M.Measure.meant g.R.Reducer.gives in
    let shelf = c.args.self.now.shelf.now in
    let none = min 0 (length c.args.rows.now) in
    let lent : Lent = record { rows = none; out = length (take m left) } in
    let goes = over (λ _ i d. GoesOn R (card c.in-Card.block c.in-Card.event) lent (reply (λ l. shown (take l c.card.new.out)) c.card.result) shelf i d shelf i d)
    c.kept-in-Card.ensures.shelf c.kept-in-Card.ensures.index c.kept-in-Card.ensures.cards (c.card.ensures.book shelf none) in
    record {
      tables = same_tables _;
      rest = written_rest (λ xs l. shown (take l xs)) 16 o m (taken (length left) c.args.call.now) left c.card.new.out cut long is
          (λ x b d st. subst (λ z. 16 ≤ z) fit (shown_room st)) c.card.result c.card.ensures.same goes;
      book = goes_as (ap asked c.in-Card.is) (ap (lent_to (length c.args.rows.now) (length left)) c.in-Card.is ∙ same_lent refl (sym cut ∙ sym fit))
          (ap (λ a. replied a (take (taken (length left) c.args.call.now) (c.card.new.out ++ drop m left))) (search rules))
          (written_book Shown (λ xs l. shown (take l xs)) (λ x xs. refl) 16 o m (taken (length left) c.args.call.now) left c.card.new.out cut long is
          (λ x b d st. subst (λ z. 16 ≤ z) fit (shown_room st)) c.card.result goes);
    }

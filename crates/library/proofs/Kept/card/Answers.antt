-- Each refusal leaves all as it was; an accepted look shows the book's list.
use Rattle.std.proofs.Common.{◌≡◌, ◌+◌, ◌*◌, ◌<◌, ◌≤◌, length, get_or, take, drop, Ok, refl, ap, ◌∙◌, arith, rules as found}
use Rattle.std.proofs.lemmas.Bool.{true≢false, false≢true}
use Rattle.library.specs.Books.{rules}
use Rattle.library.specs.Steps.{no_card, shows}
use Rattle.library.specs.Tables.{overwritten}
use Rattle.library.proofs.Answering.{goes_same}
use Rattle.library.proofs.Shows.{card_missing, card_stale, card_unnamed, card_cramped, card_copied, card_length, card_shown}
use Rattle.library.proofs.Kept.card.Goals as goal

pub returns-then-block-count : goal.returns-then-block-count
returns-then-block-count g c =
    let law = rules g.M.Measure.ops g.M.Measure.wide g.M.Measure.meant g.R.Reducer.gives in
    let count = c.count.ensures in
    let above : c.count.result ≤ c.args.block = omega arith in
    record {
      same = λ _. refl;
      answer = λ b shelf rows st. card_missing law _ _ _ _ _ rows st _ count above;
      len = λ b shelf st ok. absurd (false≢true ok);
      rows = λ b shelf st ok. absurd (false≢true ok);
      book = λ shelf rows. goes_same law g.met.M.Measure.lawful g.met.R.Reducer.sound shelf _ _ _ _ _ (λ b st. no_card _ _ _ _ (card_missing law _ _ _ _ _ rows st _ count above));
    }

pub returns-then-row : goal.returns-then-row
returns-then-row g c =
    let law = rules g.M.Measure.ops g.M.Measure.wide g.M.Measure.meant g.R.Reducer.gives in
    let count = c.count.ensures in
    let below : c.args.block < c.count.result = omega arith in
    let is = c.row-row.ensures in
    let old = c.if-row.true in
    record {
      same = λ _. refl;
      answer = λ b shelf rows st. card_stale law _ _ _ _ _ rows st _ count below _ is old;
      len = λ b shelf st ok. absurd (false≢true ok);
      rows = λ b shelf st ok. absurd (false≢true ok);
      book = λ shelf rows. goes_same law g.met.M.Measure.lawful g.met.R.Reducer.sound shelf _ _ _ _ _ (λ b st. no_card _ _ _ _ (card_stale law _ _ _ _ _ rows st _ count below _ is old));
    }

pub returns-then-event-row : goal.returns-then-event-row
returns-then-event-row g c =
    let law = rules g.M.Measure.ops g.M.Measure.wide g.M.Measure.meant g.R.Reducer.gives in
    let count = c.count.ensures in
    let below : c.args.block < c.count.result = omega arith in
    let is = c.row-row.ensures in
    let current = c.if-row.false in
    let above : c.row-row.result.inputs ≤ c.args.event = omega arith in
    record {
      same = λ _. refl;
      answer = λ b shelf rows st. card_unnamed law _ _ _ _ _ rows st _ count below _ is current above;
      len = λ b shelf st ok. absurd (false≢true ok);
      rows = λ b shelf st ok. absurd (false≢true ok);
      book = λ shelf rows. goes_same law g.met.M.Measure.lawful g.met.R.Reducer.sound shelf _ _ _ _ _ (λ b st. no_card _ _ _ _ (card_unnamed law _ _ _ _ _ rows st _ count below _ is current above));
    }

pub returns-then-out-lt16 : goal.returns-then-out-lt16
returns-then-out-lt16 g c =
    let law = rules g.M.Measure.ops g.M.Measure.wide g.M.Measure.meant g.R.Reducer.gives in
    let count = c.count.ensures in
    let below : c.args.block < c.count.result = omega arith in
    let is = c.row-row.ensures in
    let current = c.if-row.false in
    let event : c.args.event < c.row-row.result.inputs = omega arith in
    let short : length c.args.out.now < 16 = omega arith in
    record {
      same = λ _. refl;
      answer = λ b shelf rows st. card_cramped law _ _ _ _ _ rows st _ count below _ is current event short;
      len = λ b shelf st ok. absurd (false≢true ok);
      rows = λ b shelf st ok. absurd (false≢true ok);
      book = λ shelf rows. goes_same law g.met.M.Measure.lawful g.met.R.Reducer.sound shelf _ _ _ _ _ (λ b st. no_card _ _ _ _ (card_cramped law _ _ _ _ _ rows st _ count below _ is current event short));
    }

pub returns : goal.returns
returns g c =
    let law = rules g.M.Measure.ops g.M.Measure.wide g.M.Measure.meant g.R.Reducer.gives in
    let count = c.count.ensures in
    let below : c.args.block < c.count.result = omega arith in
    let is = c.row-row.ensures in
    let current = c.if-row.false in
    let event : c.args.event < c.row-row.result.inputs = omega arith in
    let room : 16 ≤ length c.args.out.now = omega arith in
    let shown : c.part.result.now ≡ take 16 (drop (128 * c.args.block + 16 * c.args.event) c.args.self.now.cards.now) = c.part.ensures in
    let copied : c.overwrite.new.table ≡ overwritten c.args.out.now 0 (take 16 (drop (128 * c.args.block + 16 * c.args.event) c.args.self.now.cards.now)) =
    c.overwrite.ensures ∙ ap (overwritten c.args.out.now 0) shown in
    let len : c.unwrap_or.result ≡ get_or c.row-row.result.lens c.args.event 0 = search found in
    record {
      same = λ no_way. absurd (true≢false no_way);
      answer = λ b shelf rows st. card_shown law _ _ _ _ _ rows st _ count below _ is current event room _ copied _ len;
      len = λ b shelf st _. ap Ok (card_length law _ _ _ _ _ 0 st _ count below _ is current event room _ copied _ len);
      rows = λ b shelf st _. card_copied law _ _ _ _ _ 0 st _ count below _ is current event room _ copied _ len;
      book = λ shelf rows. goes_same law g.met.M.Measure.lawful g.met.R.Reducer.sound shelf _ _ _ _ _
          (λ b st. shows _ _ _ _ (card_shown law _ _ _ _ _ rows st _ count below _ is current event room _ copied _ len));
    }

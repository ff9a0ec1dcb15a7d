-- Each refusal leaves all as it was; an accepted retime is the book's.
use Rattle.std.proofs.Common.{◌≡◌, ◌+◌, ◌<◌, ◌≤◌, length, sym, refl, ◌∙◌, ap, subst, arith}
use Rattle.std.proofs.lemmas.Bool.{true≢false, false≢true}
use Rattle.library.specs.Books.{rules, with_retime}
use Rattle.library.specs.Kept.{KeptAmount, NoAmount}
use Rattle.library.specs.Marks.{Counted}
use Rattle.library.specs.Steps.{no_retime, retimes}
use Rattle.library.specs.Tables.{row_at, overwritten}
use Rattle.library.proofs.Answering.{goes_same}
use Rattle.library.proofs.Passing.{same_tables}
use Rattle.library.proofs.Retimes.{retime_width, retime_missing, retime_unnamed, retime_done, retime_index, retime_shelf, retime_stands}
use Rattle.library.proofs.Soundness.{stands_sound}
use Rattle.library.proofs.Library.retime.Goals as goal

pub returns-then-given-width : goal.returns-then-given-width
returns-then-given-width g c =
    let law = rules g.M.Measure.ops g.M.Measure.wide g.M.Measure.meant g.R.Reducer.gives in
    let other : length c.args.amount.now ≡ g.M.Measure.wide → ⊥ = λ e. c.if-given-width.true (e ∙ sym c.width.ensures) in
    record {
      tables = same_tables _;
      same = λ _. (refl, refl);
      cards = refl;
      answer = λ b cards st. retime_width law _ _ _ _ _ st other;
      shelf = λ b cards st ok. absurd (false≢true ok);
      index = λ b cards st ok. absurd (false≢true ok);
      book = λ cards lent. goes_same law g.met.M.Measure.lawful g.met.R.Reducer.sound _ _ cards lent _ _ (λ b st. no_retime _ _ _ lent _ (retime_width law _ _ _ _ _ st other));
    }

pub returns-then-block-n : goal.returns-then-block-n
returns-then-block-n g c =
    let law = rules g.M.Measure.ops g.M.Measure.wide g.M.Measure.meant g.R.Reducer.gives in
    let wide : length c.args.amount.now ≡ g.M.Measure.wide = omega arith in
    let above : c.count-n.result ≤ c.args.block = omega arith in
    let count = subst (λ i. Counted i c.count-n.result) c.kept-kept.ensures.index c.count-n.ensures in
    record {
      tables = same_tables _;
      same = λ _. (refl, refl);
      cards = refl;
      answer = λ b cards st. retime_missing law _ _ _ _ _ st wide _ count above;
      shelf = λ b cards st ok. absurd (false≢true ok);
      index = λ b cards st ok. absurd (false≢true ok);
      book = λ cards lent. goes_same law g.met.M.Measure.lawful g.met.R.Reducer.sound _ _ cards lent _ _ (λ b st. no_retime _ _ _ lent _ (retime_missing law _ _ _ _ _ st wide _ count above));
    }

pub returns-in_default : goal.returns-in_default
returns-in_default g c =
    let law = rules g.M.Measure.ops g.M.Measure.wide g.M.Measure.meant g.R.Reducer.gives in
    let wide : length c.args.amount.now ≡ g.M.Measure.wide = omega arith in
    let below : c.args.block < c.count-n.result = omega arith in
    let count = subst (λ i. Counted i c.count-n.result) c.kept-kept.ensures.index c.count-n.ensures in
    let is = c.row-row.ensures ∙ ap (λ i. row_at i c.args.block) c.kept-kept.ensures.index in
    let none = subst (λ s. NoAmount g.M.Measure.wide s c.row-row.result c.args.algorithm) c.kept-kept.ensures.shelf c.in_default.ensures in
    record {
      tables = same_tables _;
      same = λ _. (refl, refl);
      cards = refl;
      answer = λ b cards st. retime_unnamed law _ _ _ _ _ st wide _ count below _ is none;
      shelf = λ b cards st ok. absurd (false≢true ok);
      index = λ b cards st ok. absurd (false≢true ok);
      book = λ cards lent. goes_same law g.met.M.Measure.lawful g.met.R.Reducer.sound _ _ cards lent _ _ (λ b st. no_retime _ _ _ lent _ (retime_unnamed law _ _ _ _ _ st wide _ count below _ is none));
    }

pub returns : goal.returns
returns g c =
    let law = rules g.M.Measure.ops g.M.Measure.wide g.M.Measure.meant g.R.Reducer.gives in
    let wide : length c.args.amount.now ≡ g.M.Measure.wide = omega arith in
    let below : c.args.block < c.count-n.result = omega arith in
    let written : c.overwrite.new.table ≡ overwritten c.args.self.now.shelf.now (c.row-row.result.start + c.in-Some.place) c.args.amount.now =
    c.overwrite.ensures ∙ ap (λ s. overwritten s (c.row-row.result.start + c.in-Some.place) c.args.amount.now) c.mark.ensures.shelf in
    let count = subst (λ i. Counted i c.count-n.result) c.kept-kept.ensures.index c.count-n.ensures in
    let is = c.row-row.ensures ∙ ap (λ i. row_at i c.args.block) c.kept-kept.ensures.index in
    let has = subst (λ s. KeptAmount g.M.Measure.wide s c.row-row.result c.args.algorithm c.in-Some.place) c.kept-kept.ensures.shelf c.in-Some.ensures in
    let mk = c.mark.ensures.marked in
    record {
      tables = let T = c.mark.ensures.tables in record { shelf = T.shelf; index = T.index; cards = T.cards; shelf_length = c.overwrite.auto.table ∙ T.shelf_length; index_length = T.index_length; cards_length = T.cards_length };
      cards = c.mark.ensures.cards;
      same = λ no_way. absurd (true≢false no_way);
      answer = λ b cards st. retime_done law _ _ _ _ _ st wide _ count below _ is _ has;
      shelf = λ b cards st _. retime_shelf law _ _ _ _ _ st wide _ count below _ is _ has _ mk _ written;
      index = λ b cards st _. retime_index law _ _ _ _ _ st wide _ count below _ is _ has _ mk;
      book = λ cards lent b st.
          let now_stands = retime_stands law _ _ _ _ _ st wide _ count below _ is _ has _ mk _ written in
          (with_retime b _ _ _, (retimes _ _ _ lent (retime_done law _ _ _ _ _ st wide _ count below _ is _ has), (now_stands, stands_sound law g.met.M.Measure.lawful g.met.R.Reducer.sound _ _ _ cards now_stands)));
    }

-- What the working of a composite left is a card in its rows.
use Rattle.std.proofs.Common.{take, ap, ◌∙◌, arith}
use Rattle.costs.specs.Entries.{entry_ops}
use Rattle.networks.specs.Networks.{network_of}
use Rattle.networks.specs.Refusals.{Carded, Unworked}
use Rattle.networks.specs.Rows.{list_at}
use Rattle.sheets.proofs.Forms.{form_of}
use Rattle.charts.specs.Naming.{says}
use Rattle.library.specs.Books.{rules}
use Rattle.library.specs.Placing.{faces_kept, cards_kept}
use Rattle.library.proofs.Forming.{card_in, sized_wires, over_names}
use Rattle.library.proofs.Passing.{passed_is}
use Rattle.library.proofs.Working.{network_card, network_stops}
use Rattle.library.proofs.Kept.work_wires.Goals as goal

pub returns : goal.returns
returns g c =
    let sheet = c.args.sheet.now in
    let s = says sheet in
    let index = c.args.self.now.index.now in
    let cards = c.args.self.now.cards.now in
    let R = rules g.M.Measure.ops g.M.Measure.wide g.M.Measure.meant g.R.Reducer.gives in
    let e = c.in_ok-lens.ensures in
    let lens = c.in_ok-lens.lens in
    let out = c.card_in.new.gathered in
    let names = take c.count.result c.read_names-names.result in
    let named = ap (λ n. take n c.read_names-names.result) c.count.ensures ∙ c.read_names-names.ensures in
    let form = form_of sheet.width.bytes sheet.bytes.now sheet.right in
    record {
      answer = λ _. network_card R (faces_kept index s.instances) (cards_kept index cards s.instances) s c.requires.block out lens
          (over_names index cards names s.instances named (λ f d. Carded R.ops R.gives (network_of s f) d (list_at out lens)) e.answer) e.rows.0.unused;
      rows = card_in (entry_ops g.M.Measure.ops).zero s.face.inputs out lens form.few_inputs (omega arith) e.rows.1 (sized_wires (entry_ops g.M.Measure.ops).zero s.face.inputs out lens e.rows.0) e.rows.0.unused (λ k j _. e.rows.0.padded k j);
    }

pub returns-in_err-lens : goal.returns-in_err-lens
returns-in_err-lens g c =
    let s = says c.args.sheet.now in
    let index = c.args.self.now.index.now in
    let cards = c.args.self.now.cards.now in
    let R = rules g.M.Measure.ops g.M.Measure.wide g.M.Measure.meant g.R.Reducer.gives in
    let names = take c.count.result c.read_names-names.result in
    let named = ap (λ n. take n c.read_names-names.result) c.count.ensures ∙ c.read_names-names.ensures in
    let e = c.in_err-lens.field-0.0 in
    record {
      answer = λ _. rw (passed_is c.from_residual.result _ c.from_residual.ensures) (network_stops R (faces_kept index s.instances) (cards_kept index cards s.instances) s c.requires.block e
          (over_names index cards names s.instances named (λ f d. Unworked R.ops R.gives (network_of s f) d e) c.in_err-lens.ensures.answer));
      rows = rw (passed_is c.from_residual.result _ c.from_residual.ensures) tt;
    }

-- What the working of a chart left is a card in its rows.
use Rattle.std.proofs.Common.{◌≡◌, [], length, arith, rules as usual}
use Rattle.costs.specs.Entries.{entry_ops}
use Rattle.sheets.proofs.Forms.{form_of}
use Rattle.charts.specs.Naming.{says}
use Rattle.networks.specs.declared.beneath.Face.{Face}
use Rattle.library.specs.Books.{rules}
use Rattle.library.proofs.Forming.{card_in}
use Rattle.library.proofs.Working.{chart_card, chart_sized}
use Rattle.library.proofs.place.work_chart.Goals as goal

no_face : Face
no_face = record { inputs = 0; outputs = 0 }

pub returns : goal.returns
returns g c =
    let sheet = c.args.sheet.now in
    let s = says sheet in
    let R = rules g.M.Measure.ops g.M.Measure.wide g.M.Measure.meant g.R.Reducer.gives in
    let e = c.in_ok-lens.ensures in
    let lens = c.in_ok-lens.lens in
    let out = c.card.new.out in
    let form = form_of sheet.width.bytes sheet.bytes.now sheet.right in
    let eight : length lens ≡ 8 = search usual in
    record {
      answer = λ f cards. chart_card R f cards s c.requires.block out lens e.answer e.lengths.unused;
      rows = card_in (entry_ops g.M.Measure.ops).zero s.face.inputs out lens form.few_inputs (omega arith) eight (chart_sized R (λ _. no_face) (λ _ _. []) s out lens e.whole) e.lengths.unused e.rows.0;
    }

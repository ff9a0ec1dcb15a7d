-- The entries of the event, reduced. Assumes nothing.
use Rattle.std.proofs.Common.{length, ap, ◌∙◌, arith}
use Rattle.std.proofs.lemmas.List.{length-take-le}
use Rattle.sheets.proofs.Forms.{form_of}
use Rattle.charts.specs.Naming.{says}
use Rattle.charts.proofs.Serving.{length_served}
use Rattle.charts.proofs.graph.Chart.service_list.Goals as goal

pub serve-n-requires-clause-few : goal.serve-n-requires-clause-few
serve-n-requires-clause-few g c =
    let sheet = c.args.self.now.sheet.now in
    (form_of sheet.width.bytes sheet.bytes.now sheet.right).few_entries c.args.f c.requires.event

pub reduced-requires : goal.reduced-requires
reduced-requires g c =
    let sheet = c.args.self.now.sheet.now in
    let form = form_of sheet.width.bytes sheet.bytes.now sheet.right in
    let n = c.serve-n.result in
    let size = ap length c.serve-n.ensures.rows ∙ length_served g.M.Measure.meant c.args.f (says sheet).entries in
    let taken = length-take-le n c.serve-n.new.rows c.serve-n.ensures.within in
    let some = form.some_entries c.requires.service c.args.f c.requires.event in
    let few = form.few_entries c.args.f c.requires.event in
    (omega (arith, taken, size, some), omega (arith, taken, size, few))

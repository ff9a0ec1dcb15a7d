-- The algorithm's amount is there, and as wide as the measure's. Assumes nothing.
use Rattle.std.proofs.Common.{ℕ, ◌<◌, List, [], length, get_or, sym, ap, ◌∙◌, subst, Bor}
use Rattle.std.proofs.lemmas.Option.{slice_get-get_or}
use Rattle.sheets.proofs.Forms.{form_of}
use Rattle.charts.specs.Charts.{Within, algorithm_amount}
use Rattle.charts.specs.Naming.{says}
use Rattle.charts.proofs.Firsts.{mapped_some}
use Rattle.charts.proofs.graph.Chart.algorithm_amount.Goals as goal

bytes_of : Bor (List ℕ) → List ℕ
bytes_of r = r.now

pub read-requires : goal.read-requires
unfolding bytes_of
read-requires g c =
    let sheet = c.args.self.now.sheet.now in
    let S = says sheet in
    let within : c.in-Some.k < length S.amounts = subst (Within (length S.amounts)) c.in-Some.is c.requires in
    let is = mapped_some bytes_of c.amount.result c.unwrap.result (get_or S.amounts c.in-Some.k []) c.unwrap.ensures (c.amount.ensures ∙ slice_get-get_or S.amounts c.in-Some.k [] within) in
    ap length is ∙ (form_of sheet.width.bytes sheet.bytes.now sheet.right).wide_amounts c.in-Some.k within ∙ c.args.self.now.width

pub returns-in-Some : goal.returns-in-Some
unfolding bytes_of
returns-in-Some g c =
    let S = says c.args.self.now.sheet.now in
    let within : c.in-Some.k < length S.amounts = subst (Within (length S.amounts)) c.in-Some.is c.requires in
    let is = mapped_some bytes_of c.amount.result c.unwrap.result (get_or S.amounts c.in-Some.k []) c.unwrap.ensures (c.amount.ensures ∙ slice_get-get_or S.amounts c.in-Some.k [] within) in
    c.read.ensures ∙ ap g.M.Measure.meant is ∙ sym (ap (algorithm_amount g.M.Measure.ops g.M.Measure.meant S) c.in-Some.is)

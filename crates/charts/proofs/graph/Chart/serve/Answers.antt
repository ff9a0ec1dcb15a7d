-- The entries of the event, one after another. Assumes nothing.
use Rattle.std.proofs.Common.{◌≡◌, ◌+◌, ◌<◌, ◌++◌, length, take, drop, sym, ap, ◌∙◌, subst, arith}
use Rattle.std.proofs.lemmas.List.{take_more_set, length-append, length-take-le}
use Rattle.sheets.proofs.Forms.{form_of}
use Rattle.charts.specs.Charts.{served_entry, served_entries, no_entry}
use Rattle.charts.specs.Naming.{says}
use Rattle.charts.proofs.Steps.{serve_hit, serve_miss}
use Rattle.charts.proofs.Serving.{length_served}
use Rattle.charts.proofs.graph.Chart.serve.Goals as goal
use Rattle.charts.proofs.graph.Chart.serve.Goals.{then-entry-f, else-entry-f}

pub served_entry-requires : goal.served_entry-requires
served_entry-requires g c =
    let sheet = c.args.self.now.sheet.now in
    let S = says sheet in
    ap (λ x. length x.amount) c.entry_at-entry.ensures ∙ (form_of sheet.width.bytes sheet.bytes.now sheet.right).wide_entries c.loop-k.k no_entry (omega (arith, c.count-k-end.ensures)) ∙ c.args.self.now.width

pub bounds-rows-n : goal.bounds-rows-n
bounds-rows-n g c =
    let S = says c.args.self.now.sheet.now in
    let meant = g.M.Measure.meant in
    let f = c.args.f in
    let so_far = take c.loop-k.n c.loop-k.rows in
    let long = length-take-le c.loop-k.n c.loop-k.rows c.loop-k.invariant.1 in
    omega (arith, c.loop-k.auto.rows, ap length c.loop-k.invariant.0, length-append so_far (served_entries meant f (drop c.loop-k.k S.entries)), length_served meant f S.entries, c.requires.few, c.requires.room, long)

pub loop-k-preserved : goal.loop-k-preserved
loop-k-preserved g c =
    let S = says c.args.self.now.sheet.now in
    let meant = g.M.Measure.meant in
    let f = c.args.f in
    let i = c.loop-k.k in
    let within : i < length S.entries = omega (arith, c.count-k-end.ensures) in
    let so_far = take c.loop-k.n c.loop-k.rows in
    let whole = served_entries meant f S.entries in
    let long = length-take-le c.loop-k.n c.loop-k.rows c.loop-k.invariant.1 in
    let room : c.loop-k.n < length c.loop-k.rows =
    omega (arith, c.loop-k.auto.rows, ap length c.loop-k.invariant.0, length-append so_far (served_entries meant f (drop i S.entries)), length_served meant f S.entries, c.requires.few, c.requires.room, long) in
    let event = ap (λ x. x.event) c.entry_at-entry.ensures in
    elim c.if-entry-f.branch [
      | then-entry-f w ↦ (
        serve_hit meant f S.entries i no_entry within w.served_entry.result so_far (take c.if-entry-f.n c.if-entry-f.rows) whole (sym event ∙ w.if-entry-f.true)
            (w.served_entry.ensures ∙ ap (served_entry meant) c.entry_at-entry.ensures)
            (ap (λ k. take k c.if-entry-f.rows) w.n-is ∙ ap (take _) w.rows-is ∙ take_more_set c.loop-k.rows c.loop-k.n w.served_entry.result room)
            c.loop-k.invariant.0,
        omega (arith, w.n-is, room, c.if-entry-f.auto.rows, c.loop-k.auto.rows),
      )
      | else-entry-f w ↦ (
        subst (λ l. l ++ served_entries meant f (drop (i + 1) S.entries) ≡ whole) (sym (ap (λ k. take k c.if-entry-f.rows) w.n-is ∙ ap (take _) w.rows-is))
            (serve_miss meant f S.entries i no_entry within so_far whole (λ is. w.if-entry-f.false (event ∙ is)) c.loop-k.invariant.0),
        omega (arith, w.n-is, c.loop-k.invariant.1, c.if-entry-f.auto.rows, c.loop-k.auto.rows),
      )
    ]

-- The numbers are those of the sheet's instances.
use Rattle.std.proofs.Common.{◌≡◌, ◌<◌, length, get_or, take, ◌∙◌, rules, tests, arith}
use Rattle.std.proofs.lemmas.List.{ext_get_or, get_or-take, length-take-le}
use Rattle.std.proofs.lemmas.Option.{slice_get-get_or}
use Rattle.sheets.proofs.Forms.{form_of}
use Rattle.charts.specs.Naming.{says}
use Rattle.networks.proofs.Found.{made_each}
use Rattle.library.proofs.instances.read_names.Goals as goal

pub returns : goal.returns
returns c =
    let sheet = c.args.sheet.now in
    let ns = (says sheet).instances in
    let few = (form_of sheet.width.bytes sheet.bytes.now sheet.right).few_instances in
    let ys = c.from_fn.result in
    let long = length-take-le (length ns) ys (omega (arith, few, c.from_fn.ensures.items.long)) in
    let each = made_each _ _ (λ k y. k < length ns → y ≡ get_or ns k 255) (λ k y q call. (search (rules, tests), λ within. let there = slice_get-get_or ns k 255 within in search (rules, tests, there))) ys 16 c.from_fn.ensures.items in
    ext_get_or 255 (take (length ns) ys) ns long
    (λ i within. get_or-take (length ns) ys i 255 (omega (arith, long)) ∙ each i 255 (omega (arith, long, few)) (omega (arith, long)))

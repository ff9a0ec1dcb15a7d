-- The rows are the sheet's connections. Assumes nothing.
use Rattle.std.proofs.Common.{◌≡◌, ◌<◌, length, get_or, take, ◌∙◌, rules, tests, arith}
use Rattle.std.proofs.lemmas.List.{ext_get_or, get_or-take, length-take-le}
use Rattle.std.proofs.lemmas.Option.{slice_get-get_or}
use Rattle.sheets.proofs.Forms.{form_of}
use Rattle.networks.specs.Networks.{says}
use Rattle.networks.specs.Refusals.{no_connection}
use Rattle.networks.proofs.Found.{made_each}
use Rattle.networks.proofs.net.read_connections.Goals as goal

pub returns : goal.returns
returns c =
    let sheet = c.args.sheet.now in
    let cs = (says sheet).connections in
    let few = (form_of sheet.width.bytes sheet.bytes.now sheet.right).few_connections in
    let ys = c.from_fn.result in
    let long = length-take-le (length cs) ys (omega (arith, few, c.from_fn.ensures.items.long)) in
    let each = made_each _ _ (λ k y. k < length cs → y ≡ get_or cs k no_connection) (λ k y q call. (search (rules, tests), λ within. let there = slice_get-get_or cs k no_connection within in search (rules, tests, there))) ys 64 c.from_fn.ensures.items in
    ext_get_or no_connection (take (length cs) ys) cs long
    (λ i within. get_or-take (length cs) ys i no_connection (omega (arith, long)) ∙ each i no_connection (omega (arith, long, few)) (omega (arith, long)))

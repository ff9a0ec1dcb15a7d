-- The tables have the room of the form, and there are rows for every list.
use Rattle.std.proofs.Common.{◌≡◌, ◌-◌, ◌*◌, ◌^◌, min, map, length, string_bytes, sym, ap, ◌∙◌, arith}
use Rattle.std.proofs.lemmas.Result.{IfOk-weaker}
use Rattle.library.specs.Books.{rules}
use Rattle.library.specs.Tables.{sizes_of}
use Rattle.library.proofs.Replaying.{same_sizes}
use Rattle.files.specs.Files.{made_of, rows_asked, blocks_in, bytes_in}
use Rattle.files.specs.Printing.{Carried, Printed}
use Rattle.files.proofs.Printing.{carried_in, printed}
use Rattle.files.proofs.session.session.Goals as goal

pub returns : goal.returns
returns g c =
    let bytes = c.args.bytes.now in
    let calls = c.deref.result.now in
    let shelf = c.deref_mut.result.now in
    let index = c.deref_mut-2.result.now in
    let cards = c.deref_mut-3.result.now in
    let rows = c.deref_mut-4.result.now in
    let out = c.deref_mut-5.result.now in
    let form = c.args.form in
    let by = rules g.M.Measure.ops g.M.Measure.wide g.M.Measure.meant g.R.Reducer.gives in
    let same-calls = ap rows_asked (c.deref-2.ensures.value ∙ sym c.deref.ensures.value) in
    let long-shelf : length shelf ≡ bytes_in form = omega (arith, c.deref_mut.ensures.len, c.in_ok-shelf.ensures.len, c.bytes.ensures) in
    let long-index : length index ≡ blocks_in form = omega (arith, c.deref_mut-2.ensures.len, c.in_ok-index.ensures.len, c.blocks-2.ensures) in
    let long-cards : length cards ≡ 128 * blocks_in form = omega (arith, c.deref_mut-3.ensures.len, c.in_ok-cards.ensures.len, c.blocks-3.ensures) in
    let long-rows : length rows ≡ 3072 = omega (arith, c.deref_mut-4.ensures.len, c.in_ok-rows.ensures.len) in
    let long-out : length out ≡ min (rows_asked calls) (2 ^ 64 - 1) = omega (arith, c.deref_mut-5.ensures.len, c.in_ok-out.ensures.len, c.rows_taken.ensures, same-calls) in
    IfOk-weaker c.carry.result (λ s. Carried by g.M.Spelt.text form (sizes_of shelf index cards) (length rows) (length out) calls c.in_ok-calls.end (length bytes) (string_bytes s))
    (λ s. Printed by g.M.Spelt.text form bytes (string_bytes s))
    (λ s carried.
    printed bytes (string_bytes s) calls (ap (map made_of) c.deref.ensures.value ∙ c.in_ok-calls.ensures.calls)
    (carried_in calls (length bytes) (string_bytes s) (same_sizes long-shelf long-index long-cards) long-rows long-out c.in_ok-calls.ensures.end carried))
    c.carry.ensures

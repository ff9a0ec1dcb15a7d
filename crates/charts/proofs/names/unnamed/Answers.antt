-- An item that is there has an offset. Assumes nothing.
use Rattle.std.proofs.Common.{is_some, ap, ◌∙◌, arith}
use Rattle.std.proofs.lemmas.Option.{slice_get-get_or}
use Rattle.sheets.specs.Sheets.{offsets_of}
use Rattle.sheets.proofs.Saying.{length_offsets}
use Rattle.charts.proofs.names.unnamed.Goals as goal

pub unwrap-requires : goal.unwrap-requires
unwrap-requires c =
    let sheet = c.args.sheet.now in
    ap is_some (c.offset.ensures ∙ slice_get-get_or (offsets_of c.args.item sheet.bytes.now) c.args.k 0 (omega (arith, length_offsets sheet.width.bytes c.args.item sheet.bytes.now)))

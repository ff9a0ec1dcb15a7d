-- The answers to the needs of `offset_at`. Assumes nothing.
use Rattle.std.proofs.Common.{is_some, ap, ◌∙◌, arith}
use Rattle.std.proofs.lemmas.Option.{slice_get-get_or}
use Rattle.sheets.specs.Sheets.{offsets_of}
use Rattle.sheets.specs.declared.words.Item.TheVariants.{Connection as OfConnection}
use Rattle.sheets.proofs.Saying.{length_offsets}
use Rattle.networks.proofs.naming.offset_at.Goals as goal

pub unwrap-requires : goal.unwrap-requires
unwrap-requires c =
    let sheet = c.args.sheet.now in
    let long = length_offsets sheet.width.bytes OfConnection sheet.bytes.now in
    ap is_some (c.offset.ensures ∙ slice_get-get_or (offsets_of OfConnection sheet.bytes.now) c.args.k 0 (omega (arith, long, c.requires)))

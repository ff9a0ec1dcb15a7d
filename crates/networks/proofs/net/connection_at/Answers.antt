-- The answers to the needs of `connection_at`. Assumes nothing.
use Rattle.std.proofs.Common.{is_some, ap, ◌∙◌}
use Rattle.std.proofs.lemmas.Option.{slice_get-get_or}
use Rattle.networks.specs.Networks.{says}
use Rattle.networks.specs.Refusals.{no_connection}
use Rattle.networks.proofs.net.connection_at.Goals as goal

pub unwrap-requires : goal.unwrap-requires
unwrap-requires c = ap is_some (c.connection.ensures ∙ slice_get-get_or (says c.args.sheet.now).connections c.args.k no_connection c.requires)

pub returns : goal.returns
returns c = let there = slice_get-get_or (says c.args.sheet.now).connections c.args.k no_connection c.requires in cc

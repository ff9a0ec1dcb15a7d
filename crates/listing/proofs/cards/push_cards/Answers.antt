-- There are 64 blocks at most.
use Rattle.std.proofs.Common.{length, ap, arith}
use Rattle.std.proofs.lemmas.List.{length-take}
use Rattle.listing.proofs.cards.push_cards.Goals as goal

pub push_block-requires : goal.push_block-requires
push_block-requires g c = omega (arith, ap length c.front-blocks.ensures, length-take 64 c.args.index.now)

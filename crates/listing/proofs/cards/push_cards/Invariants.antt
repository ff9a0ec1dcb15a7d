use Rattle.std.proofs.Common.{◌≡◌, ◌++◌, drop, string_bytes}
use Rattle.listing.specs.Cards.{rows_lines}
use Rattle.listing.proofs.cards.push_cards.Given as goal

abbrev pub invariant-loop-n : goal.invariant-loop-n
invariant-loop-n g l =
    string_bytes l.text ++ rows_lines g.M.Spelt.text l.cards l.n (drop l.n l.blocks)
    ≡ string_bytes l.initial.text ++ rows_lines g.M.Spelt.text l.cards 0 l.blocks

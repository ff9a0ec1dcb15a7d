use Rattle.std.proofs.Common.{◌≡◌, ◌++◌, drop, string_bytes}
use Rattle.listing.specs.Cards.{list_lines}
use Rattle.listing.proofs.cards.Heading.push_list.Given as goal

abbrev pub invariant-loop-at : goal.invariant-loop-at
invariant-loop-at g l =
    string_bytes l.text ++ list_lines g.M.Spelt.text l.self.word.now l.self.block l.event l.self.outputs l.at (drop l.at l.list)
    ≡ string_bytes l.initial.text ++ list_lines g.M.Spelt.text l.self.word.now l.self.block l.event l.self.outputs 0 l.list

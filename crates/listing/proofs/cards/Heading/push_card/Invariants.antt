use Rattle.std.proofs.Common.{◌≡◌, ◌-◌, ◌++◌, string_bytes}
use Rattle.networks.specs.Rows.{list_at}
use Rattle.listing.specs.Cards.{card_lines}
use Rattle.listing.proofs.cards.Heading.push_card.Given as goal

abbrev pub invariant-loop-e : goal.invariant-loop-e
invariant-loop-e g l =
    string_bytes l.text ++ card_lines g.M.Spelt.text l.self.word.now l.self.block l.self.outputs (list_at l.rows l.lens) l.e (l.inputs - l.e)
    ≡ string_bytes l.initial.text ++ card_lines g.M.Spelt.text l.self.word.now l.self.block l.self.outputs (list_at l.rows l.lens) 0 l.inputs

use Rattle.std.proofs.Common.{◌++◌, string_bytes, ap, ◌∙◌}
use Rattle.networks.specs.Rows.{list_at}
use Rattle.listing.specs.Cards.{list_lines}
use Rattle.listing.proofs.Listing.{push_part, card_more}
use Rattle.listing.proofs.cards.Heading.push_card.Goals as goal

pub loop-e-preserved : goal.loop-e-preserved
loop-e-preserved g c =
    let h = c.args.self.now in
    push_part _ _ _ _ _ _
    (c.in_ok-push_list.ensures ∙ ap (λ l. string_bytes c.loop-e.text ++ list_lines g.M.Spelt.text h.word.now h.block c.loop-e.e h.outputs 0 l) c.list_of.ensures)
    (card_more g.M.Spelt.text h.word.now h.block h.outputs (list_at c.args.rows.now c.args.lens.now) c.loop-e.e c.args.inputs c.loop-e-test.true)
    c.loop-e.invariant

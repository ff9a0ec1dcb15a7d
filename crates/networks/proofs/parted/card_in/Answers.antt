-- The sheet's network is the one worked. Assumes nothing.
use Rattle.std.proofs.Common.{ℕ, List, sym, subst}
use Rattle.costs.specs.declared.entry.Entry.{Entry}
use Rattle.networks.proofs.Finish.{network_read, sheet_given}
use Rattle.networks.proofs.parted.card_in.Goals as goal
use Rattle.networks.specs.Networks.{says, Given}

pub new-places-requires : goal.new-places-requires
new-places-requires g c =
    let sheet = c.args.sheet.now in
    let card : ℕ → ℕ → List (Entry g.row.M.Denot) = g.B.Beneath.cards c.args.beneath.now in
    let faces = g.B.Beneath.faces c.args.beneath.now in
    let read = network_read (says sheet) c.interface-face.result c.count.result c.count-2.result faces c.read_connections-wires.result c.interface-face.ensures c.count.ensures c.count-2.ensures c.read_connections-wires.ensures in
    subst (λ net. Given net card) (sym read) (sheet_given sheet faces card c.requires.named c.requires.fit)

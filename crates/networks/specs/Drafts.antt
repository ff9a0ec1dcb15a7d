-- The lists that stand in working rows. Assumes nothing.
use Rattle.std.specs.Prelude.{List, take}
use Rattle.costs.specs.declared.entry.Entry.{Entry}
use Rattle.networks.specs.declared.draft.Draft.{Draft}
use Rattle.networks.specs.declared.draft.Pile.{Pile}

-- the list that is being formed
abbrev pub drafted : {M : Type 0} → Draft M → List (Entry M)
drafted draft = take draft.len draft.rows.now

-- the entries put after one another so far
abbrev pub piled : {M : Type 0} → Pile M → List (Entry M)
piled pile = take pile.len pile.rows.now

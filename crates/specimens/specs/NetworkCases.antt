-- The worked cases of networks, from the rules alone. Amounts are in ticks. Assumes nothing.
use Rattle.std.specs.Prelude.{◌≡◌, ℕ, zero, suc, List, [], ◌∷◌}
use Rattle.costs.specs.Entries.{entry_ops}
use Rattle.costs.specs.Lists.{By}
use Rattle.costs.specs.Measures.{ticks_ops}
use Rattle.costs.specs.Reducers.{kept, merged_alone}
use Rattle.costs.specs.declared.entry.Entry.{Entry}
use Rattle.costs.specs.declared.ticks.Ticks.{Ticks}
use Rattle.sheets.specs.declared.words.End.TheVariants.{Outside, Inside}
use Rattle.networks.specs.declared.beneath.Face.{Face}
use Rattle.networks.specs.Networks.{Network}
use Rattle.networks.specs.Cards.{Card}
use Rattle.specimens.specs.CostCases.{entry}

-- instance 0 has one output, instance 1 two
abbrev pub two_faces : ℕ → Face
two_faces zero = record { inputs = 1; outputs = 1 }
two_faces (suc i) = record { inputs = 1; outputs = 2 }

-- the event runs to instance 0, whose output runs to instance 1, whose two outputs run outside
abbrev pub two : Network
two = record {
  inputs = 1;
  outputs = 2;
  instances = 2;
  faces = two_faces;
  connections =
      record { source = Outside 0; target = Inside 0 0 } ∷
      record { source = Inside 0 0; target = Inside 1 0 } ∷
      record { source = Inside 1 0; target = Outside 0 } ∷
      record { source = Inside 1 1; target = Outside 1 } ∷ [];
}

-- instance 0 sends two events to instance 1, whose card has (300; 1, 0), (100; 1, 1)
abbrev pub two_cards : ℕ → ℕ → List (Entry Ticks)
two_cards zero f = entry 0 (2 ∷ []) ∷ []
two_cards (suc i) f = entry 300 (1 ∷ 0 ∷ []) ∷ entry 100 (1 ∷ 1 ∷ []) ∷ []

pub record NetworkCases : Type 0 where
  -- two events to (300; 1, 0), (100; 1, 1), by keep: (600; 2, 0), (400; 2, 1), (200; 2, 2)
  pub two_kept : (lists : ℕ → List (Entry Ticks)) → Card ticks_ops (By (kept (entry_ops ticks_ops))) two two_cards lists
      → lists 0 ≡ entry 600 (2 ∷ 0 ∷ []) ∷ entry 400 (2 ∷ 1 ∷ []) ∷ entry 200 (2 ∷ 2 ∷ []) ∷ []
  -- the same by merge: (600; 2, 2)
  pub two_merged : (lists : ℕ → List (Entry Ticks)) → Card ticks_ops (By (merged_alone (entry_ops ticks_ops))) two two_cards lists → lists 0 ≡ entry 600 (2 ∷ 2 ∷ []) ∷ []
  -- by keep it has a card
  pub two_stands : (lists : ℕ → List (Entry Ticks)) × Card ticks_ops (By (kept (entry_ops ticks_ops))) two two_cards lists

-- What the code's parts of a slice stand for. Assumes nothing.
use Rattle.std.specs.Prelude.{ℕ, List, Option}
use Rattle.std.specs.Borrow.{Bor}
use Rattle.std.specs.Option.{option_map}
use Rattle.sheets.specs.Frames.{Raw}
use Rattle.sheets.specs.declared.part.Part.{Part}

abbrev pub raw : Part → Raw
raw p = record { tag = p.tag; content = p.content.now }

abbrev pub shown : Option (Part × Bor (List ℕ)) → Option Raw
shown = option_map (λ p. raw p.0)

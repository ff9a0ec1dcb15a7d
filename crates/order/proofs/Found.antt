-- What a search over numbers found, said otherwise. Assumes nothing.
use Rattle.std.proofs.Common.{Option, MatchOption}
use Rattle.std.specs.declared.option.Option.TheVariants.{None, Some}

pub found_as : {X P P' : Type 0} {Q Q' : X → Type 0} (r : Option X) → MatchOption r P Q → (P → P') → ((x : X) → Q x → Q' x) → MatchOption r P' Q'
found_as None h none some = none h
found_as (Some x) h none some = some x h

-- What a call gave back, as an answer of a list. Assumes nothing.
use Rattle.std.specs.Prelude.{Ok, Err, Result}
use Rattle.library.specs.Calls.{Answer}
use Rattle.library.specs.declared.calls.Accepted.{Accepted}
use Rattle.library.specs.declared.refusal.Refusal.{Refusal}

-- an accepted call with what it answers, or its refusal
abbrev pub answered : {X : Type 0} → (X → Accepted) → Result X Refusal → Answer
answered answer (Ok x) = Ok (answer x)
answered answer (Err e) = Err e

-- What a call gives back, as a verdict and as a reply. Assumes nothing.
use Rattle.std.specs.Prelude.{Ok, Err, Result}
use Rattle.library.specs.Checks.{Verdict, turned, fine}
use Rattle.library.specs.Refusals.{told}
use Rattle.library.specs.Steps.{Reply, refused}
use Rattle.library.specs.declared.refusal.Refusal.{Refusal}

-- an accepted call with what it answers, or the refusal as it is told
abbrev pub verdict : {X Y : Type 0} → (X → Y) → Result X Refusal → Verdict Y
verdict answer (Ok x) = fine (answer x)
verdict answer (Err e) = turned (told e)

-- the same, as what a step of a history answers
abbrev pub reply : {X M : Type 0} → (X → Reply M) → Result X Refusal → Reply M
reply answer (Ok x) = answer x
reply answer (Err e) = refused (told e)

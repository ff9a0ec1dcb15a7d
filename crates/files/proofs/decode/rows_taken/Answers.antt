-- One call more.
use Rattle.std.proofs.Common.{◌≡◌, ◌+◌, ◌-◌, ◌^◌, min, rules, refl, subst, arith}
use Rattle.std.specs.Iterator.{AlwaysYields}
use Rattle.std.proofs.lemmas.Fn.{fold_over, fronts, slice_gives}
use Rattle.library.specs.Calls.{taken}
use Rattle.files.specs.Files.{rows_asked}
use Rattle.files.proofs.Decoding.{rows_asked_push}
use Rattle.files.proofs.decode.rows_taken.Goals as goal

pub returns : goal.returns
returns c =
    fold_over fronts (λ y. y.now) _ (λ ys n. n ≡ min (rows_asked ys) (2 ^ 64 - 1)) _
    (λ ys a x b f' so k. let one : b ≡ min (a + taken (2 ^ 64 - 1) x.now) (2 ^ 64 - 1) = search (rules, arith) in (omega (arith, rows_asked_push ys x.now), search rules))
    c.iter.result c.args.calls.now 0 c.fold.result (subst (λ xs. AlwaysYields fronts (λ y. y.now) c.iter.result xs) c.iter.ensures.rest (slice_gives c.iter.result)) refl c.fold.ensures.ran

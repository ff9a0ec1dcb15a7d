-- What a refusal says that stands for a plain error, or for a list that was not formed. Assumes nothing.
use Rattle.std.proofs.Common.{◌≡◌, ℕ, List, Some, None, Option, Ok, Err, Result, MatchResult, Bor, sym, ◌∙◌, subst, ap}
use Rattle.std.specs.Option.{ok_or}
use Rattle.std.specs.Result.{IsErrAnd}
use Rattle.std.proofs.lemmas.Result.{err_from_is_err_and}
use Rattle.costs.specs.Forming.{Formation, list, long}
use Rattle.costs.specs.Lists.{Sized}
use Rattle.charts.specs.Refusals.{CircleAt, TooLongAt}
use Rattle.charts.specs.Rows.{Formed}
use Rattle.charts.specs.declared.refusal.Refusal.{Refusal}
use Rattle.charts.specs.declared.refusal.Refusal.TheVariants.{Circle, TooLong}

-- the lowest node of a circle, as refusal 8
pub circle_refused : (P Q : ℕ → Type 0) {Makes : ℕ → Refusal → Type 0} (r : Result ℕ ℕ) (r' : Result ℕ Refusal) → MatchResult r (λ k. r' ≡ Ok k) (λ s. IsErrAnd r' (Makes s))
    → ((s : ℕ) (e : Refusal) → Makes s e → e ≡ Circle s) → MatchResult r P Q → MatchResult r' P (CircleAt Q)
circle_refused P Q (Ok k) r' is makes h = subst (λ o. MatchResult o P (CircleAt Q)) (sym is) h
circle_refused P Q (Err s) r' is makes h =
    let e = err_from_is_err_and r' is in
    subst (λ o. MatchResult o P (CircleAt Q)) (sym (e.1 ∙ ap Err (makes s e.0 e.2))) h

module _ {X E : Type 0} (P : Formation X → Type 0) (e : E) where
  -- a list that was formed, or else the error
  pub formed_ok : (o : Option (Bor (List X))) (es : Bor (List X)) → Ok es ≡ ok_or o e → Formed P o → P (list es.now) × Sized es.now
  formed_ok None es is h = absurd (let z : Ok es ≡ Err e = is in cc)
  formed_ok (Some xs) es is h = let same : es ≡ xs = cc in subst (λ (l : Bor (List X)). P (list l.now) × Sized l.now) (sym same) h

  pub formed_err : (o : Option (Bor (List X))) (e' : E) → Err e' ≡ ok_or o e → Formed P o → P long × (e' ≡ e)
  formed_err None e' is h = (h, cc)
  formed_err (Some xs) e' is h = absurd (let z : Err e' ≡ Ok xs = is in cc)

pub too_long_at : {T : Type 0} (Q : T → Type 0) (P : ℕ → Type 0) (r : Result T Refusal) (e : Refusal) (p : ℕ) → r ≡ Err e → e ≡ TooLong p → P p → MatchResult r Q (TooLongAt P)
too_long_at Q P r e p is at h = subst (λ o. MatchResult o Q (TooLongAt P)) (sym (is ∙ ap Err at)) h

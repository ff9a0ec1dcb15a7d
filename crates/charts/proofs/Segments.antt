-- The lists of events in a card's rows. Assumes nothing.
use Rattle.std.proofs.Common.{◌≡◌, ℕ, zero, suc, ◌+◌, ◌<◌, ◌≤◌, List, [], ◌∷◌, ◌++◌, sym, refl, ap, ◌∙◌, arith}
use Rattle.costs.specs.Lent.{list_at}
use Rattle.charts.specs.Refusals.{lists_at}

-- the lists of events, one more, and where nothing else changed
pub lists_more : {X : Type 0} (rows : List X) (lens : List ℕ) (n e : ℕ) → lists_at rows lens (n + 1) e ≡ lists_at rows lens n e ++ list_at rows lens (e + n) ∷ []
lists_more rows lens zero e = let is : e + 0 ≡ e = omega arith in ap (λ k. list_at rows lens k ∷ []) (sym is)
lists_more rows lens (suc n) e =
    let step : suc n + 1 ≡ suc (n + 1) = omega arith in
    let at : (e + 1) + n ≡ e + suc n = omega arith in
    ap (λ k. lists_at rows lens k e) step ∙ ap (λ l. list_at rows lens e ∷ l) (lists_more rows lens n (e + 1) ∙ ap (λ k. lists_at rows lens n (e + 1) ++ list_at rows lens k ∷ []) at)

pub lists_same : {X : Type 0} (rows rows' : List X) (lens lens' : List ℕ) (n e : ℕ) → ((t : ℕ) → e ≤ t → t < e + n → list_at rows lens t ≡ list_at rows' lens' t) → lists_at rows lens n e ≡ lists_at rows' lens' n e
lists_same rows rows' lens lens' zero e same = refl
lists_same rows rows' lens lens' (suc n) e same =
    ap (λ l. l ∷ lists_at rows lens n (e + 1)) (same e (omega arith) (omega arith)) ∙ ap (λ l. list_at rows' lens' e ∷ l) (lists_same rows rows' lens lens' n (e + 1) (λ t low high. same t (omega arith) (omega arith)))

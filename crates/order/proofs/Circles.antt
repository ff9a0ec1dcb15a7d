-- An order of all nodes leaves no circle; a node that cannot be worked leads on without end. Assumes nothing.
use Rattle.std.proofs.Common.{◌≡◌, ℕ, zero, suc, ◌<◌, ◌≤◌, List, length, get_or, take, sym, refl, subst, arith}
use Rattle.std.specs.List.{ContainsAt as Has}
use Rattle.std.proofs.lemmas.List.{take-take}
use Rattle.order.specs.Order.{Stuck, Order, Complete, Unworkable}
use Rattle.order.specs.Ways.{Way, Endless, NoCircle}
use Rattle.order.proofs.Induction.{has_take, has_of_take}

-- what was worked before a turn was worked before a later one
earlier_still : (i k : ℕ) (ws : List ℕ) (t : ℕ) → i ≤ k → Has (take i ws) t → Has (take k ws) t
earlier_still i k ws t le h = has_of_take i (take k ws) t (subst (λ us. Has us t) (sym (take-take i k ws le)) h)

module _ {Node : ℕ → Type 0} {leads : ℕ → ℕ → Type 0} {ws : List ℕ} where
  -- a way leads to what was worked earlier
  earlier : Order Node leads ws → (n k : ℕ) → k < length ws → (t : ℕ) → Way leads (suc n) (get_or ws k 0) t → Has (take k ws) t
  earlier order zero k within t (d, (way, is)) = subst (Has (take k ws)) is ((order k within).ready d way)
  earlier order (suc n) k within t (d, (way, rest)) =
      let h = has_take k ws d ((order k within).ready d way) in
      earlier_still h.0 k ws t (omega (arith, h.1)) (earlier order n h.0 h.2 t (subst (λ s. Way leads (suc n) s t) (sym h.3) rest))

  pub no_circle : Complete Node leads ws → NoCircle Node leads
  no_circle complete s node n way =
      let h = complete.all s node in
      let at : get_or ws h.0 0 ≡ s = h.2 0 in
      (complete.order h.0 h.1).unworked (subst (Has (take h.0 ws)) (sym at) (earlier complete.order n h.0 h.1 s (subst (λ v. Way leads (suc n) v s) (sym at) way)))

module _ {Node : ℕ → Type 0} {leads : ℕ → ℕ → Type 0} (ws : List ℕ) where
  goes_on : Stuck Node leads (Has ws) → (n s : ℕ) → Node s → (Has ws s → ⊥) → (t : ℕ) × Way leads n s t
  goes_on none zero s node un = (s, refl)
  goes_on none (suc n) s node un =
      let b = none s node un in
      let rest = goes_on none n b.0 b.1.node b.1.unmet in
      (rest.0, (b.0, (b.1.way, rest.1)))

pub endless : {Node : ℕ → Type 0} {leads : ℕ → ℕ → Type 0} (s : ℕ) → Unworkable Node leads s → Endless leads s
endless s u n = goes_on u.ws u.none n s u.node u.unworked

-- Induction by the working order, and that there is one order. Assumes nothing.
use Rattle.std.proofs.Common.{◌≡◌, ℕ, zero, suc, ◌+◌, ◌<◌, ◌≤◌, List, length, get_or, take, sym, refl, ◌∙◌, subst, ⊎_elim, arith}
use Rattle.std.specs.List.{ContainsAt as Has}
use Rattle.std.proofs.ByRecursion.{has_get_or}
use Rattle.std.proofs.lemmas.List.{length-take, get_or-take, take_more_same, take_all}
use Rattle.std.proofs.lemmas.Bool.{cases_lt}
use Rattle.order.specs.Order.{Next, Order, Complete}

-- it was worked earlier, at a place of its own
pub has_take : (k : ℕ) (ws : List ℕ) (m : ℕ) → Has (take k ws) m → (j : ℕ) × (j < k) × (j < length ws) × (get_or ws j 0 ≡ m)
has_take k ws m h =
    let under : h.0 < k = omega (arith, h.1, length-take k ws) in
    (h.0, under, omega (arith, h.1, length-take k ws), sym (get_or-take k ws h.0 0 under) ∙ h.2 0)

-- it was worked
pub has_of_take : (k : ℕ) (ws : List ℕ) (m : ℕ) → Has (take k ws) m → Has ws m
has_of_take k ws m h =
    let under : h.0 < k = omega (arith, h.1, length-take k ws) in
    (h.0, omega (arith, h.1, length-take k ws), λ d. sym (get_or-take k ws h.0 d under) ∙ h.2 d)

module _ {Node : ℕ → Type 0} {leads : ℕ → ℕ → Type 0} {ws : List ℕ} (order : Order Node leads ws) (P : ℕ → Type 0) (step : (n : ℕ) → Has ws n → Node n → ((m : ℕ) → leads n m → P m) → P n) where
  below : (j k : ℕ) → k < j → k < length ws → P (get_or ws k 0)
  below zero k lt within = absurd (omega arith)
  below (suc j) k lt within =
      let next = order k within in
      step (get_or ws k 0) (has_get_or ws k 0 within) next.node (λ m way.
      let h = has_take k ws m (next.ready m way) in
      subst P h.3 (below j h.0 (omega (arith, h.1)) h.2))

  -- what holds of a node where it holds of all that it leads to holds of every worked node
  pub in_order : (n : ℕ) → Has ws n → P n
  in_order n h = subst P (h.2 0) (below (length ws) h.0 h.1 h.1)

-- and of every node where all are worked
pub by_order : {Node : ℕ → Type 0} {leads : ℕ → ℕ → Type 0} {ws : List ℕ} → Complete Node leads ws → (P : ℕ → Type 0) → ((n : ℕ) → Node n → ((m : ℕ) → leads n m → P m) → P n) → (n : ℕ) → Node n → P n
by_order complete P step n node = in_order complete.order P (λ m h. step m) n (complete.all n node)

module _ {Node : ℕ → Type 0} {leads : ℕ → ℕ → Type 0} where
  -- one node at most is next
  pub next_one : {Worked : ℕ → Type 0} (n m : ℕ) → Next Node leads Worked n → Next Node leads Worked m → n ≡ m
  next_one n m a b =
      ⊎_elim
      (λ lt. absurd (b.lowest n lt a.node a.unworked a.ready))
      (λ le. ⊎_elim (λ lt. absurd (a.lowest m lt b.node b.unworked b.ready)) (λ ge. omega (arith, le, ge)) (cases_lt m n))
      (cases_lt n m)

  -- two orders begin alike
  pub same_front : (ws us : List ℕ) → Order Node leads ws → Order Node leads us → (k : ℕ) → k ≤ length ws → k ≤ length us → take k ws ≡ take k us
  same_front ws us a b zero p q = refl
  same_front ws us a b (suc k) p q =
      let ih = same_front ws us a b k (omega arith) (omega arith) in
      let one = next_one (get_or ws k 0) (get_or us k 0) (a k (omega arith)) (subst (λ l. Next Node leads (Has l) (get_or us k 0)) (sym ih) (b k (omega arith))) in
      let step : k + 1 ≡ suc k = omega arith in
      subst (λ j. take j ws ≡ take j us) step (take_more_same ws us k 0 (omega arith) (omega arith) ih one)

  -- an order of all nodes is not shorter than another
  not_shorter : (ws us : List ℕ) → Complete Node leads ws → Order Node leads us → length ws < length us → ⊥
  not_shorter ws us complete order lt =
      let k = length ws in
      let front : take k us ≡ ws = same_front us ws order complete.order k (omega arith) (omega arith) ∙ take_all k ws (omega arith) in
      let next = order k lt in
      next.unworked (subst (λ l. Has l (get_or us k 0)) (sym front) (complete.all (get_or us k 0) next.node))

  -- there is one order of all nodes
  pub complete_one : (ws us : List ℕ) → Complete Node leads ws → Complete Node leads us → ws ≡ us
  complete_one ws us a b =
      let even : length ws ≡ length us = ⊎_elim (λ lt. absurd (not_shorter ws us a b.order lt)) (λ le. ⊎_elim (λ lt. absurd (not_shorter us ws b a.order lt)) (λ ge. omega (arith, le, ge)) (cases_lt (length us) (length ws))) (cases_lt (length ws) (length us)) in
      sym (take_all (length ws) ws (omega arith)) ∙ same_front ws us a.order b.order (length ws) (omega arith) (omega arith) ∙ take_all (length ws) us (omega arith)

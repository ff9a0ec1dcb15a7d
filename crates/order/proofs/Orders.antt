-- The working order, one node more at a time. Assumes nothing.
use Rattle.std.proofs.Common.{◌≡◌, ℕ, zero, suc, ◌+◌, ◌<◌, Bool, true, false, List, [], ◌∷◌, ◌++◌, length, get_or, take, set, replicate, sym, refl, ap, ◌∙◌, subst, ⊎_elim, arith}
use borrow.Author.Tests.{clash}
use Rattle.std.specs.List.{ContainsAt as Has}
use Rattle.std.proofs.ByRecursion.{has_append_left, has_push, has_push_cases}
use Rattle.std.proofs.lemmas.List.{take-take, get_or-take, length-take, take-append-le, get_or_append_left, take_at, get_or_push, length_push, get_or-set_same, get_or-set_other}
use Rattle.std.proofs.lemmas.Bool.{cases_eq}
use Rattle.std.proofs.str.Laws.{order}
use Rattle.order.specs.Order.{Next, Stuck, Order, Complete, Unworkable, Marked, MarksOf, falses}

module _ (Node : ℕ → Type 0) (leads : ℕ → ℕ → Type 0) where
  -- worked by another account of the same nodes
  module _ {W V : ℕ → Type 0} (to : (t : ℕ) → W t → V t) (back : (t : ℕ) → V t → W t) where
    pub next_same : {s : ℕ} → Next Node leads W s → Next Node leads V s
    next_same {s} h = record {
      node = h.node;
      unworked = λ v. h.unworked (back s v);
      ready = λ d l. to d (h.ready d l);
      lowest = λ t below node un ready. h.lowest t below node (λ w. un (to t w)) (λ d l. back d (ready d l));
    }

    pub stuck_same : Stuck Node leads W → Stuck Node leads V
    stuck_same h t node un =
        let b = h t node (λ w. un (to t w)) in
        (b.0, record { node = b.1.node; way = b.1.way; unmet = λ v. b.1.unmet (back b.0 v) })

  pub order_none : Order Node leads []
  order_none k within = absurd (omega arith)

  pub order_more : (ws : List ℕ) (s : ℕ) → Order Node leads ws → Next Node leads (Has ws) s → Order Node leads (ws ++ s ∷ [])
  order_more ws s was next k within =
      ⊎_elim
      (λ below.
      let P : List ℕ → ℕ → Type 0 = λ us w. Next Node leads (Has us) w in
      subst (λ us. P us (get_or (ws ++ s ∷ []) k 0)) (sym (take-append-le k ws (s ∷ []) (omega arith)))
      (subst (P (take k ws)) (sym (get_or_append_left ws (s ∷ []) 0 k below)) (was k below)))
      (λ above.
      let P : List ℕ → ℕ → Type 0 = λ us w. Next Node leads (Has us) w in
      let end : length ws ≡ k = omega (arith, length_push ws s) in
      subst (λ us. P us (get_or (ws ++ s ∷ []) k 0)) (sym (take_at ws (s ∷ []) k end))
      (subst (P ws) (sym (get_or_push ws s 0 k end)) next))
      (order k (length ws))

  pub order_take : (ws : List ℕ) (i : ℕ) → Order Node leads ws → Order Node leads (take i ws)
  order_take ws i order' k within =
      let P : List ℕ → ℕ → Type 0 = λ us w. Next Node leads (Has us) w in
      let below : k < i = omega (arith, length-take i ws) in
      subst (λ us. P us (get_or (take i ws) k 0)) (sym (take-take k i ws (omega arith)))
      (subst (P (take k ws)) (sym (get_or-take i ws k 0 below)) (order' k (omega (arith, length-take i ws))))

pub marks_more : (marks : List Bool) (ws : List ℕ) (s : ℕ) → s < length marks → MarksOf marks ws → MarksOf (set marks s true) (ws ++ s ∷ [])
marks_more marks ws s within was t =
    ⊎_elim
    (λ same. (
      λ _. subst (Has (ws ++ s ∷ [])) (sym same) (has_push ws s),
      λ _. ap (λ i. get_or (set marks s true) i false) same ∙ get_or-set_same marks s true false within,
    ))
    (λ apart.
    let as-was = get_or-set_other marks s t true false apart in (
      λ m. has_append_left ws (s ∷ []) t ((was t).0 (sym as-was ∙ m)),
      λ h. ⊎_elim (λ old. as-was ∙ (was t).1 old) (λ new. absurd (apart (sym new))) (has_push_cases ws s t h),
    ))
    (cases_eq t s)

pub falses_set : (marks : List Bool) (s : ℕ) → s < length marks → (Marked marks s → ⊥) → falses (set marks s true) + 1 ≡ falses marks
falses_set [] s within un = absurd (omega arith)
falses_set (true ∷ bs) zero within un = absurd (un refl)
falses_set (false ∷ bs) zero within un = omega arith
falses_set (true ∷ bs) (suc s) within un = falses_set bs s (omega arith) un
falses_set (false ∷ bs) (suc s) within un = omega (arith, falses_set bs s (omega arith) un)

none_marked : (n t : ℕ) → get_or (replicate n false) t false ≡ false
none_marked zero t = refl
none_marked (suc n) zero = refl
none_marked (suc n) (suc t) = none_marked n t

-- where every mark was taken away
pub marks_none : (n : ℕ) → MarksOf (replicate n false) []
marks_none n t = (λ m. absurd (clash (sym (none_marked n t) ∙ m)), λ h. absurd (omega (arith, h.1)))

pub falses_none : (n : ℕ) → falses (replicate n false) ≡ n
falses_none zero = refl
falses_none (suc n) = omega (arith, falses_none n)

-- the same nodes, said otherwise
module _ {N V : ℕ → Type 0} (leads : ℕ → ℕ → Type 0) (to : (k : ℕ) → N k → V k) (back : (k : ℕ) → V k → N k) where
  pub next_as : {W : ℕ → Type 0} {s : ℕ} → Next N leads W s → Next V leads W s
  next_as {W} {s} h = record { node = to s h.node; unworked = h.unworked; ready = h.ready; lowest = λ t below node. h.lowest t below (back t node) }

  pub complete_as : (ws : List ℕ) → Complete N leads ws → Complete V leads ws
  complete_as ws h = record { order = λ k within. next_as (h.order k within); all = λ t node. h.all t (back t node) }

  pub unworkable_as : (s : ℕ) → Unworkable N leads s → Unworkable V leads s
  unworkable_as s h = record {
    ws = h.ws;
    order = λ k within. next_as (h.order k within);
    none = λ t node un. let b = h.none t (back t node) un in (b.0, record { node = to b.0 b.1.node; way = b.1.way; unmet = b.1.unmet });
    node = to s h.node;
    unworked = h.unworked;
    lowest = λ t below node. h.lowest t below (back t node);
  }

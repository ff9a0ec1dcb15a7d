-- All blocks beneath keep the limits.
use Rattle.std.proofs.Common.{ℕ, ◌<◌, ◌≤◌, length, refl, rules, tests, arith}
use Rattle.std.proofs.lemmas.Iterator.{YieldsList-from_range, cases_from_all}
use Rattle.costs.specs.Lists.{Sized}
use Rattle.charts.specs.Naming.{says}
use Rattle.library.proofs.Finding.{all_below}
use Rattle.library.proofs.place.is_fit.Goals as goal

pub returns : goal.returns
returns g c =
    let faces = g.B.Beneath.faces c.args.beneath.now in
    let Here : ℕ → Type 0 = λ i. ((faces i).inputs ≤ 8) × ((f : ℕ) → f < (faces i).inputs → Sized (g.B.Beneath.cards c.args.beneath.now i f)) in
    let n = c.count.result in
    let all = all_below Here n c.all.result
    (cases_from_all _ _ _ Here (λ i. Here i → ⊥) c.all.ensures.ran (YieldsList-from_range 0 n n refl (omega arith)) (λ x q k. search (rules, tests)) (λ x q k. search (rules, tests))) in (
      λ t. record { narrow = λ i l. (all.0 t i (omega (arith, l, c.count.ensures))).0; sized = λ i f p. (all.0 t i (omega (arith, p.0, c.count.ensures))).1 f p.1 },
      λ fit. all.1 (λ i l. let in' : i < length (says c.args.sheet.now).instances = omega (arith, c.count.ensures) in (fit.narrow i in', λ f m. fit.sized i f (in', m))),
    )

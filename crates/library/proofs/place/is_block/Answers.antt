-- All lists have 1 to 16 entries.
use Rattle.std.proofs.Common.{◌≡◌, ℕ, ◌<◌, refl, sym, ap, subst, rules, tests, arith}
use Rattle.std.proofs.lemmas.Iterator.{YieldsList-from_range, cases_from_all}
use Rattle.costs.specs.Lists.{Sized}
use Rattle.networks.specs.declared.beneath.Face.{Face}
use Rattle.library.proofs.Finding.{all_below}
use Rattle.library.proofs.place.is_block.Goals as goal

pub returns-then-inputs-le8 : goal.returns-then-inputs-le8
returns-then-inputs-le8 g c =
    let Here : ℕ → Type 0 = λ f. Sized (g.B.Beneath.cards c.args.beneath.now c.args.i f) in
    let n = c.face-inputs.result.inputs in
    let is : n ≡ (g.B.Beneath.faces c.args.beneath.now c.args.i).inputs = ap (λ (x : Face). x.inputs) c.face-inputs.ensures in
    let all = all_below Here n c.all.result
    (cases_from_all _ _ _ Here (λ f. Here f → ⊥) c.all.ensures.ran (YieldsList-from_range 0 n n refl (omega arith)) (λ x q k. search (rules, tests)) (λ x q k. search (rules, tests))) in
    (λ t. (omega (arith, is), λ f l. all.0 t f (subst (λ m. f < m) (sym is) l)), λ p. all.1 (λ f l. p.1 f (subst (λ m. f < m) is l)))

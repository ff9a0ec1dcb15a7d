-- The laws of entries, for all measures together, and what follows of any amounts. Assumes nothing.
use Rattle.std.specs.Prelude.{◌≡◌, true}
use Rattle.std.proofs.Common.{◌∙◌, subst}
use Rattle.std.proofs.lemmas.Bool.{and_parts, and_from}
use Rattle.costs.specs.Amounts.{Amounts, Lawful}
use Rattle.costs.specs.Entries.{counts_ops, entry_ops}
use Rattle.costs.specs.declared.entry.Entry.{Entry}
use Rattle.costs.specs.CountLaws.{counts_lawful}
use Rattle.costs.specs.Same.{same_entries}

-- the amount covers, and the counts do
pub covers_parts : {M : Type 0} (ops : Amounts M) (a b : Entry M) → (entry_ops ops).covers a b ≡ true → (ops.covers a.amount b.amount ≡ true) × (counts_ops.covers a.counts b.counts ≡ true)
covers_parts ops a b e = and_parts _ _ e

module _ {M : Type 0} {ops : Amounts M} (laws : Lawful ops) where
  pub entry_lawful : Lawful (entry_ops ops)
  entry_lawful = record {
    associative = λ a b c. same_entries _ _ (laws.associative _ _ _) (counts_lawful.associative a.counts b.counts c.counts);
    commutative = λ a b. same_entries _ _ (laws.commutative _ _) (counts_lawful.commutative a.counts b.counts);
    neutral = λ a. same_entries _ _ (laws.neutral _) (counts_lawful.neutral a.counts);
    reflexive = λ a. and_from _ _ (laws.reflexive _) (counts_lawful.reflexive a.counts);
    transitive = λ a b c p q.
        let l = covers_parts ops a b p in
        let r = covers_parts ops b c q in
        and_from _ _ (laws.transitive _ b.amount _ l.0 r.0) (counts_lawful.transitive a.counts b.counts c.counts l.1 r.1);
    antisymmetric = λ a b p q.
        let l = covers_parts ops a b p in
        let r = covers_parts ops b a q in
        same_entries _ _ (laws.antisymmetric _ _ l.0 r.0) (counts_lawful.antisymmetric a.counts b.counts l.1 r.1);
    least = λ a. and_from _ _ (laws.least _) (counts_lawful.least a.counts);
    monotone = λ a b c p.
        let l = covers_parts ops a b p in
        and_from _ _ (laws.monotone _ _ _ l.0) (counts_lawful.monotone a.counts b.counts c.counts l.1);
    higher_left = λ a b. and_from _ _ (laws.higher_left _ _) (counts_lawful.higher_left a.counts b.counts);
    higher_right = λ a b. and_from _ _ (laws.higher_right _ _) (counts_lawful.higher_right a.counts b.counts);
    higher_least = λ a b c p q.
        let l = covers_parts ops c a p in
        let r = covers_parts ops c b q in
        and_from _ _ (laws.higher_least _ _ _ l.0 r.0) (counts_lawful.higher_least a.counts b.counts c.counts l.1 r.1);
  }

  -- sums of what covers cover the sums
  pub covers_plus : (a w b v : M) → ops.covers a w ≡ true → ops.covers b v ≡ true → ops.covers (ops.plus a b) (ops.plus w v) ≡ true
  covers_plus a w b v p q =
      laws.transitive (ops.plus a b) (ops.plus w b) (ops.plus w v) (laws.monotone a w b p)
      (subst (λ x. ops.covers x (ops.plus w v) ≡ true) (laws.commutative b w)
      (subst (λ x. ops.covers (ops.plus b w) x ≡ true) (laws.commutative v w) (laws.monotone b v w q)))

  pub zero_plus : (a : M) → ops.plus ops.zero a ≡ a
  zero_plus a = laws.commutative ops.zero a ∙ laws.neutral a

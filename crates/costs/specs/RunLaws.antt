-- Entries and runs: covering a run, and being a run's, under sums. Assumes nothing.
use Rattle.std.specs.Prelude.{◌≡◌, ℕ, ◌+◌, ◌<◌, ◌≤◌, min, true, ◌==◌, slice_index, refl}
use Rattle.std.proofs.Common.{◌∙◌, sym, ap, subst, inl, inr, ⊎_elim, arith}
use Rattle.std.proofs.lemmas.Bool.{cases_lt, cases_eq, cond-true, cond-false, eq-eqb, ne_eqb}
use Rattle.costs.specs.Amounts.{Amounts, Lawful}
use Rattle.costs.specs.Entries.{one_count, amount_alone, one_sent, entry_ops, count}
use Rattle.costs.specs.Runs.{Sent, none_sent, once_sent, both_sent, NotBelow, SameCount, CoversRun, IsRun}
use Rattle.costs.specs.Theorems.{RunLaws}
use Rattle.costs.specs.declared.entry.Entry.{Entry}
use Rattle.costs.specs.CountLaws.{sum_at, no_counts_at, one_count_here, one_count_elsewhere, covers_at}
use Rattle.costs.specs.EntryLaws.{covers_parts, covers_plus}

pub count_plus : {M : Type 0} (ops : Amounts M) (e f : Entry M) (o : ℕ) → o < 8 → count ((entry_ops ops).plus e f) o ≡ min (count e o + count f o) 255
count_plus ops e f o l = sum_at e.counts f.counts o l

pub count_alone : {M : Type 0} (a : M) (o : ℕ) → o < 8 → count (amount_alone a) o ≡ 0
count_alone a o l = no_counts_at o l

pub count_one : (p o : ℕ) → o < 8 → slice_index (one_count p).at o ≡ once_sent p o
count_one p o l =
    ⊎_elim
    (λ e. one_count_here p o l e ∙ sym (cond-true (o == p) 1 0 (eq-eqb o p e)))
    (λ n. one_count_elsewhere p o l n ∙ sym (cond-false (o == p) 1 0 (ne_eqb o p n)))
    (cases_eq o p)

-- a sum of counts of 255 at most, that stays at 255, is not below the sum of what each is not below
not_below_plus : (n m k j v : ℕ) → v ≡ min (n + m) 255 → NotBelow n k → NotBelow m j → NotBelow v (k + j)
not_below_plus n m k j v e (inl p) (inl q) = ⊎_elim (λ l. inl (omega (arith, l))) (λ l. inr (omega (arith, l))) (cases_lt (n + m) 255)
not_below_plus n m k j v e (inl p) (inr q) = inr (omega arith)
not_below_plus n m k j v e (inr p) q = inr (omega arith)

same_count_plus : (n m k j v : ℕ) → v ≡ min (n + m) 255 → SameCount n k → SameCount m j → SameCount v (k + j)
same_count_plus n m k j v e (inl p) (inl q) = ⊎_elim (λ l. inl (omega (arith, l))) (λ l. inr (omega (arith, l), omega (arith, l))) (cases_lt (n + m) 255)
same_count_plus n m k j v e (inl p) (inr q) = inr (omega (arith, q.0), omega (arith, q.1))
same_count_plus n m k j v e (inr p) q = inr (omega (arith, p.0), omega (arith, p.1))

module _ {M : Type 0} where
  -- a run with the same counts
  pub covers_run_as : (ops : Amounts M) (e : Entry M) (a : M) (ns ms : Sent) → ((o : ℕ) → o < 8 → ns o ≡ ms o) → CoversRun ops e a ns → CoversRun ops e a ms
  covers_run_as ops e a ns ms h c = record { amount = c.amount; counts = λ o l. subst (NotBelow (count e o)) (h o l) (c.counts o l) }

  pub is_run_as : (e : Entry M) (a : M) (ns ms : Sent) → ((o : ℕ) → o < 8 → ns o ≡ ms o) → IsRun e a ns → IsRun e a ms
  is_run_as e a ns ms h c = record { amount = c.amount; counts = λ o l. subst (SameCount (count e o)) (h o l) (c.counts o l) }

  -- an entry is that of a run of its own amount and counts
  pub is_run_own : (e : Entry M) → IsRun e e.amount (count e)
  is_run_own e = record { amount = refl; counts = λ o l. inl refl }

  pub is_run_alone : (a : M) → IsRun (amount_alone a) a none_sent
  is_run_alone a = record { amount = refl; counts = λ o l. inl (count_alone a o l) }

  pub is_run_once : (ops : Amounts M) (p : ℕ) → p < 8 → IsRun (one_sent ops p) ops.zero (once_sent p)
  is_run_once ops p within = record { amount = refl; counts = λ o l. inl (count_one p o l) }

  pub is_run_both : (ops : Amounts M) (e f : Entry M) (a b : M) (ns ms : Sent) → IsRun e a ns → IsRun f b ms → IsRun ((entry_ops ops).plus e f) (ops.plus a b) (both_sent ns ms)
  is_run_both ops e f a b ns ms p q = record {
    amount = ap (λ x. ops.plus x f.amount) p.amount ∙ ap (ops.plus a) q.amount;
    counts = λ o l. same_count_plus (count e o) (count f o) (ns o) (ms o) _ (count_plus ops e f o l) (p.counts o l) (q.counts o l);
  }

module _ {M : Type 0} {ops : Amounts M} (laws : Lawful ops) where
  pub covers_run_zero : (e : Entry M) → CoversRun ops e ops.zero none_sent
  covers_run_zero e = record { amount = laws.least e.amount; counts = λ o l. inl (omega arith) }

  pub covers_run_on : (f e : Entry M) (a : M) (ns : Sent) → (entry_ops ops).covers f e ≡ true → CoversRun ops e a ns → CoversRun ops f a ns
  covers_run_on f e a ns over c =
      let p = covers_parts ops f e over in
      record {
        amount = laws.transitive f.amount e.amount a p.0 c.amount;
        counts = λ o l.
            let at : count e o ≤ count f o = covers_at f.counts e.counts p.1 o l in
            let few : count f o < 256 = f.counts.bytes o in
            ⊎_elim (λ k. inl (omega (arith, k, at))) (λ k. inr (omega (arith, k, at, few))) (c.counts o l);
      }

  pub covers_run_both : (e f : Entry M) (a b : M) (ns ms : Sent) → CoversRun ops e a ns → CoversRun ops f b ms → CoversRun ops ((entry_ops ops).plus e f) (ops.plus a b) (both_sent ns ms)
  covers_run_both e f a b ns ms p q = record {
    amount = covers_plus laws e.amount a f.amount b p.amount q.amount;
    counts = λ o l. not_below_plus (count e o) (count f o) (ns o) (ms o) _ (count_plus ops e f o l) (p.counts o l) (q.counts o l);
  }

  pub is_run_covered : (e : Entry M) (a : M) (ns : Sent) → IsRun e a ns → CoversRun ops e a ns
  is_run_covered e a ns r = record {
    amount = subst (λ x. ops.covers e.amount x ≡ true) r.amount (laws.reflexive e.amount);
    counts = λ o l. ⊎_elim (λ k. inl (omega (arith, k))) (λ k. inr k.0) (r.counts o l);
  }

  pub run_laws : RunLaws ops
  run_laws = record {
    covers_nothing = covers_run_zero;
    covers_on = covers_run_on;
    covers_both = covers_run_both;
    is_covered = is_run_covered;
    is_alone = is_run_alone;
    is_once = is_run_once ops;
    is_both = is_run_both ops;
  }

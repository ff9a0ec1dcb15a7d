-- What covers in a list: the merged one, joined lists, and reduced ones. Assumes nothing.
use Rattle.std.specs.Prelude.{◌≡◌, ◌≤◌, true, List, [], ◌∷◌, length, fold, refl}
use Rattle.std.proofs.Common.{sym, ◌∙◌, inr, arith}
use Rattle.std.proofs.Math.Path.{subst}
use Rattle.std.proofs.Math.Logic.{inl, ⊎_elim}
use Rattle.costs.specs.Amounts.{Amounts, Lawful}
use Rattle.costs.specs.Entries.{entry_ops}
use Rattle.costs.specs.Lists.{Among, sums, merged, CoveredBy, Meaning, Functional, By, Computes, Sound}
use Rattle.costs.specs.Reducers.{merged_alone}
use Rattle.costs.specs.Runs.{Sent, CoversRun, CoveredRun}
use Rattle.costs.specs.declared.entry.Entry.{Entry}
use Rattle.costs.specs.EntryLaws.{entry_lawful, covers_plus}
use Rattle.costs.specs.Members.{among_sums, some_among, one_among}
use Rattle.costs.specs.RunLaws.{covers_run_on}

-- what computes a function gives one result
pub computes_functional : {X : Type 0} (gives : List X → List X → Type 0) (f : List X → List X) → Computes gives f → Functional gives
computes_functional gives f h given one other p q = h given one p ∙ sym (h given other q)

pub computes_by : {X : Type 0} (f : List X → List X) → Computes (By f) f
computes_by f given result e = e

module _ {X : Type 0} {ops : Amounts X} (laws : Lawful ops) where
  fold_start : (a : X) (xs : List X) → ops.covers (fold ops.higher a xs) a ≡ true
  fold_start a [] = laws.reflexive a
  fold_start a (x ∷ xs) = laws.transitive _ (ops.higher a x) a (fold_start (ops.higher a x) xs) (laws.higher_left a x)

  fold_covers : (a : X) (xs : List X) (x : X) → Among x xs → ops.covers (fold ops.higher a xs) x ≡ true
  fold_covers a [] x h = absurd h
  fold_covers a (y ∷ ys) x (inl e) =
      subst (λ z. ops.covers (fold ops.higher (ops.higher a y) ys) z ≡ true) e (laws.transitive _ (ops.higher a y) y (fold_start (ops.higher a y) ys) (laws.higher_right a y))
  fold_covers a (y ∷ ys) x (inr h) = fold_covers (ops.higher a y) ys x h

  fold_least : (c a : X) (xs : List X) → ops.covers c a ≡ true → ((x : X) → Among x xs → ops.covers c x ≡ true) → ops.covers c (fold ops.higher a xs) ≡ true
  fold_least c a [] p q = p
  fold_least c a (x ∷ xs) p q = fold_least c (ops.higher a x) xs (laws.higher_least a x c p (q x (inl refl))) (λ y h. q y (inr h))

  -- the merged one covers each, and what covers each covers it
  pub merged_covers : (xs : List X) (x : X) → Among x xs → ops.covers (merged ops xs) x ≡ true
  unfolding merged
  merged_covers xs x h = fold_covers ops.zero xs x h

  pub merged_least : (c : X) (xs : List X) → ((x : X) → Among x xs → ops.covers c x ≡ true) → ops.covers c (merged ops xs) ≡ true
  unfolding merged
  merged_least c xs q = fold_least c ops.zero xs (laws.least c) q

  pub merge_means : (xs : List X) → 1 ≤ length xs → Meaning ops xs (merged_alone ops xs)
  unfolding merged_alone
  merge_means xs l = record {
    some = omega arith;
    fewer = l;
    covered = λ x h. record { one = merged ops xs; listed = inl refl; covers = merged_covers xs x h };
    bounded = λ y h. ⊎_elim (λ e. subst (λ z. ops.covers (merged ops xs) z ≡ true) e (laws.reflexive (merged ops xs))) (λ none. absurd none) h;
  }

  -- what is covered in a list
  pub covered_some : (xs : List X) (w : X) → CoveredBy ops xs w → 1 ≤ length xs
  covered_some xs w c = some_among c.one xs c.listed

  pub covered_zero : (xs : List X) → 1 ≤ length xs → CoveredBy ops xs ops.zero
  covered_zero xs some = let e = one_among xs some in record { one = e.0; listed = e.1; covers = laws.least e.0 }

  pub covered_itself : (x : X) (xs : List X) → Among x xs → CoveredBy ops xs x
  covered_itself x xs h = record { one = x; listed = h; covers = laws.reflexive x }

  pub covered_on : (xs : List X) (w v : X) → ops.covers w v ≡ true → CoveredBy ops xs w → CoveredBy ops xs v
  covered_on xs w v h c = record { one = c.one; listed = c.listed; covers = laws.transitive c.one w v c.covers h }

  -- joined lists cover the sums of what each covers
  pub covered_sums : (xs ys : List X) (w v : X) → CoveredBy ops xs w → CoveredBy ops ys v → CoveredBy ops (sums ops xs ys) (ops.plus w v)
  covered_sums xs ys w v c d = record {
    one = ops.plus c.one d.one;
    listed = among_sums ops c.one d.one xs ys c.listed d.listed;
    covers = covers_plus laws c.one w d.one v c.covers d.covers;
  }

  -- a reduced list covers what was covered
  pub covered_meant : (xs ys : List X) (w : X) → Meaning ops xs ys → CoveredBy ops xs w → CoveredBy ops ys w
  covered_meant xs ys w means c = covered_on ys c.one w c.covers (means.covered c.one c.listed)

module _ {M : Type 0} {ops : Amounts M} (laws : Lawful ops) where
  pub covered_reduced : {gives : List (Entry M) → List (Entry M) → Type 0} → Sound ops gives → (xs ys : List (Entry M)) (w : Entry M) → length xs ≤ 1024 → gives xs ys → CoveredBy (entry_ops ops) xs w → CoveredBy (entry_ops ops) ys w
  covered_reduced sound xs ys w few given c = covered_meant (entry_lawful laws) xs ys w (sound xs ys (covered_some (entry_lawful laws) xs w c) few given) c

  -- a run that a covered entry covers
  pub covered_run : (es : List (Entry M)) (e : Entry M) (a : M) (ns : Sent) → CoveredBy (entry_ops ops) es e → CoversRun ops e a ns → CoveredRun ops es a ns
  covered_run es e a ns c covers = record { entry = c.one; listed = c.listed; covers = covers_run_on laws c.one e a ns c.covers covers }

  pub merge_sound : Sound ops (By (merged_alone (entry_ops ops)))
  merge_sound xs ys some few e = subst (Meaning (entry_ops ops) xs) (sym e) (merge_means (entry_lawful laws) xs some)

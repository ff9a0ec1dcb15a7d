-- A forming, one step at a time. Assumes nothing.
use Rattle.std.proofs.Common.{◌≡◌, ℕ, zero, suc, ◌+◌, ◌-◌, ◌<◌, ◌≤◌, true, false, cond, List, [], ◌∷◌, length, get_or, drop, Some, None, Option, sym, refl, ap, ◌∙◌, subst, inl, inr, arith}
use borrow.Author.Tests.{clash}
use Rattle.std.proofs.lemmas.List.{at_drop_more, drop_all}
use Rattle.costs.specs.Amounts.{Amounts}
use Rattle.costs.specs.Entries.{count}
use Rattle.costs.specs.declared.entry.Entry.{Entry}
use Rattle.sheets.specs.declared.words.Connection.{Connection}
use Rattle.sheets.specs.declared.words.End.{End}
use Rattle.sheets.specs.declared.words.End.TheVariants.{Inside}
use Rattle.networks.specs.Forming.{Formation, list, long, Then, Forms}
use Rattle.networks.specs.Networks.{same, targets, outputs}
use Rattle.networks.specs.Cards.{target_list, Joins, Times, Follows, SourceList, Sends, SendsAll}
use Rattle.networks.specs.Rows.{has_some}

module _ {X : Type 0} (P : Formation X → Type 0) (Q : List X → Formation X → Type 0) where
  -- the first came to a list
  pub then_on : (ys : List X) → P (list ys) → (o : Formation X) → Q ys o → Then P Q o
  then_on ys p (list zs) q = (ys, (p, q))
  then_on ys p long q = inr (ys, (p, q))

module _ {M : Type 0} (ops : Amounts M) (gives : List (Entry M) → List (Entry M) → Type 0) where
  module _ (n i : ℕ) (more : i < n) (ys xs : List (Entry M)) where
    left : suc (n - (i + 1)) ≡ n - i
    left = omega arith

    pub times_on : (zs : List (Entry M)) → Joins ops gives xs ys (list zs) → (o : Formation (Entry M)) → Times ops gives (n - (i + 1)) ys zs o → Times ops gives (n - i) ys xs o
    times_on zs p o q = subst (λ k. Times ops gives k ys xs o) left (then_on (Joins ops gives xs ys) (Times ops gives (n - (i + 1)) ys) zs p o q)

    pub times_long : Joins ops gives xs ys long → Times ops gives (n - i) ys xs long
    times_long p = subst (λ k. Times ops gives k ys xs long) left (inl p)

-- the targets from connection i on
module _ (cs : List Connection) (i : ℕ) (c₀ : Connection) (s : End) (within : i < length cs) where
  pub targets_hit : same (get_or cs i c₀).source s ≡ true → targets (drop i cs) s ≡ (get_or cs i c₀).target ∷ targets (drop (i + 1) cs) s
  targets_hit hit = at_drop_more (λ l. targets l s) cs i c₀ within ∙ ap (λ b. cond b ((get_or cs i c₀).target ∷ targets (drop (i + 1) cs) s) (targets (drop (i + 1) cs) s)) hit

  pub targets_miss : same (get_or cs i c₀).source s ≡ false → targets (drop i cs) s ≡ targets (drop (i + 1) cs) s
  targets_miss miss = at_drop_more (λ l. targets l s) cs i c₀ within ∙ ap (λ b. cond b ((get_or cs i c₀).target ∷ targets (drop (i + 1) cs) s) (targets (drop (i + 1) cs) s)) miss

module _ {M : Type 0} (ops : Amounts M) (gives : List (Entry M) → List (Entry M) → Type 0) (T : ℕ → ℕ → List (Entry M)) where
  pub follows_on : (ts : List End) (t : End) (us : List End) (xs zs : List (Entry M)) → ts ≡ t ∷ us → Joins ops gives xs (target_list ops T t) (list zs) → (o : Formation (Entry M)) → Follows ops gives T us zs o → Follows ops gives T ts xs o
  follows_on ts t us xs zs is p o q = subst (λ l. Follows ops gives T l xs o) (sym is) (then_on (Joins ops gives xs (target_list ops T t)) (Follows ops gives T us) zs p o q)

-- the same answer to another question
pub forms_as : {X : Type 0} (P Q : Formation X → Type 0) (xs : List X) → ((o : Formation X) → P o → Q o) → (r : Option (Unit {0})) → Forms P xs r → Forms Q xs r
forms_as P Q xs to (Some _) h = to (list xs) h
forms_as P Q xs to None h = to long h

pub outputs_more : (o : ℕ) → o < 8 → drop o outputs ≡ o ∷ drop (o + 1) outputs
unfolding outputs
outputs_more zero h = refl
outputs_more (suc zero) h = refl
outputs_more (suc (suc zero)) h = refl
outputs_more (suc (suc (suc zero))) h = refl
outputs_more (suc (suc (suc (suc zero)))) h = refl
outputs_more (suc (suc (suc (suc (suc zero))))) h = refl
outputs_more (suc (suc (suc (suc (suc (suc zero)))))) h = refl
outputs_more (suc (suc (suc (suc (suc (suc (suc zero))))))) h = refl
outputs_more (suc (suc (suc (suc (suc (suc (suc (suc o)))))))) h = absurd (omega arith)

pub outputs_all : (o : ℕ) → 8 ≤ o → drop o outputs ≡ []
unfolding outputs
outputs_all o h = drop_all o outputs h

module _ {M : Type 0} (ops : Amounts M) (gives : List (Entry M) → List (Entry M) → Type 0) (T : ℕ → ℕ → List (Entry M)) where
  pub sends_on : (ts : List End) (n : ℕ) (xs ys : List (Entry M)) → has_some ts ≡ true → 1 ≤ n → SourceList ops gives T ts (list ys) → (o : Formation (Entry M)) → Times ops gives n ys xs o → Sends ops gives T ts n xs o
  sends_on [] n xs ys e some p o q = absurd (clash e)
  sends_on (t ∷ ts) zero xs ys e some p o q = absurd (omega arith)
  sends_on (t ∷ ts) (suc n) xs ys e some p o q = then_on (SourceList ops gives T (t ∷ ts)) (λ zs. Times ops gives (suc n) zs xs) ys p o q

  module _ (cs : List Connection) (i : ℕ) where
    pub all_on : (e : Entry M) (os : List ℕ) (o : ℕ) (rest : List ℕ) (xs zs : List (Entry M)) → os ≡ o ∷ rest → Sends ops gives T (targets cs (Inside i o)) (count e o) xs (list zs) → (q : Formation (Entry M)) → SendsAll ops gives T cs i e rest zs q → SendsAll ops gives T cs i e os xs q
    all_on e os o rest xs zs is p q h = subst (λ l. SendsAll ops gives T cs i e l xs q) (sym is) (then_on (Sends ops gives T (targets cs (Inside i o)) (count e o) xs) (SendsAll ops gives T cs i e rest) zs p q h)

    pub all_long : (e : Entry M) (os : List ℕ) (o : ℕ) (rest : List ℕ) (xs : List (Entry M)) → os ≡ o ∷ rest → Sends ops gives T (targets cs (Inside i o)) (count e o) xs long → SendsAll ops gives T cs i e os xs long
    all_long e os o rest xs is p = subst (λ l. SendsAll ops gives T cs i e l xs long) (sym is) (inl p)

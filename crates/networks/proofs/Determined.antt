-- Where the reducer's relation is a function's, forming comes to what the plain function says. Assumes nothing.
use Rattle.std.proofs.Common.{◌≡◌, ℕ, zero, suc, ◌≤◌, leb, List, [], ◌∷◌, ◌++◌, length, sym, ap, ◌∙◌, inl, inr, arith}
use Rattle.std.specs.List.{AllByRecursion}
use Rattle.std.proofs.lemmas.Bool.{cond-true, cond-false, le-leb, lt-leb}
use Rattle.costs.specs.Amounts.{Amounts}
use Rattle.costs.specs.Entries.{amount_alone, entry_ops, count}
use Rattle.costs.specs.Lists.{sums, Computes}
use Rattle.costs.specs.declared.entry.Entry.{Entry}
use Rattle.sheets.specs.declared.words.Connection.{Connection}
use Rattle.sheets.specs.declared.words.End.{End}
use Rattle.sheets.specs.declared.words.End.TheVariants.{Inside}
use Rattle.networks.specs.Forming.{Formation, list, long, Is, Then, Reduces}
use Rattle.networks.specs.Networks.{targets, outputs}
use Rattle.networks.specs.Cards.{target_list, Joins, Times, Follows, SourceList, Sends, SendsAll, EntryList, Entries}
use Rattle.networks.specs.Evaluation.{then, reduced, join_times, follow, send, send_all, entries}

module _ {X : Type 0} where
  is_determined : (xs : List X) (o : Formation X) → Is xs o → list xs ≡ o
  is_determined xs (list ys) h = ap list (sym h)
  is_determined xs long h = absurd h

  then_determined : (P : Formation X → Type 0) (Q : List X → Formation X → Type 0) (p : Formation X) (q : List X → Formation X)
      → ((o : Formation X) → P o → p ≡ o) → ((ys : List X) (o : Formation X) → Q ys o → q ys ≡ o) → (o : Formation X) → Then P Q o → then p q ≡ o
  then_determined P Q p q dp dq (list zs) (ys, (h, k)) = ap (λ v. then v q) (dp (list ys) h) ∙ dq ys (list zs) k
  then_determined P Q p q dp dq long (inl h) = ap (λ v. then v q) (dp long h)
  then_determined P Q p q dp dq long (inr (ys, (h, k))) = ap (λ v. then v q) (dp (list ys) h) ∙ dq ys long k

module _ {M : Type 0} (ops : Amounts M) (gives : List (Entry M) → List (Entry M) → Type 0) (f : List (Entry M) → List (Entry M)) (computes : Computes gives f) where
  reduced_determined : (xs : List (Entry M)) (o : Formation (Entry M)) → Reduces gives xs o → reduced ops f xs ≡ o
  reduced_determined xs (list ys) (g, few) =
      let is = computes xs ys g in
      cond-true (leb (length (f xs)) 16) (list (f xs)) long (le-leb (length (f xs)) 16 (omega (arith, few, ap length is))) ∙ ap list (sym is)
  reduced_determined xs long (ys, (g, many)) = cond-false (leb (length (f xs)) 16) (list (f xs)) long (lt-leb (length (f xs)) 16 (omega (arith, many, ap length (computes xs ys g))))

  times_determined : (n : ℕ) (ys xs : List (Entry M)) (o : Formation (Entry M)) → Times ops gives n ys xs o → join_times ops f n ys xs ≡ o
  times_determined zero ys xs o h = is_determined xs o h
  times_determined (suc n) ys xs o h =
      then_determined (Joins ops gives xs ys) (Times ops gives n ys) (reduced ops f (sums (entry_ops ops) xs ys)) (join_times ops f n ys) (reduced_determined (sums (entry_ops ops) xs ys)) (times_determined n ys) o h

  -- the function over one table, the relation over another that has the same list of each target met
  module _ (T V : ℕ → ℕ → List (Entry M)) where
    abbrev pub Agree : End → Type 0
    Agree t = target_list ops T t ≡ target_list ops V t

    pub follow_determined : (ts : List End) → AllByRecursion Agree ts → (xs : List (Entry M)) (o : Formation (Entry M)) → Follows ops gives V ts xs o → follow ops f T ts xs ≡ o
    follow_determined [] all xs o h = is_determined xs o h
    follow_determined (t ∷ ts) all xs o h =
        then_determined (Joins ops gives xs (target_list ops V t)) (Follows ops gives V ts) (reduced ops f (sums (entry_ops ops) xs (target_list ops T t))) (follow ops f T ts)
        (λ p j. ap (λ l. reduced ops f (sums (entry_ops ops) xs l)) all.0 ∙ reduced_determined (sums (entry_ops ops) xs (target_list ops V t)) p j)
        (follow_determined ts all.1) o h

    send_determined : (ts : List End) (n : ℕ) → (1 ≤ n → AllByRecursion Agree ts) → (xs : List (Entry M)) (o : Formation (Entry M)) → Sends ops gives V ts n xs o → send ops f T ts n xs ≡ o
    send_determined [] n all xs o h = is_determined xs o h
    send_determined (t ∷ ts) zero all xs o h = is_determined xs o h
    send_determined (t ∷ ts) (suc n) all xs o h =
        then_determined (SourceList ops gives V (t ∷ ts)) (λ ys. Times ops gives (suc n) ys xs) (follow ops f T (t ∷ ts) ((entry_ops ops).zero ∷ [])) (λ ys. join_times ops f (suc n) ys xs)
        (follow_determined (t ∷ ts) (all (omega arith)) ((entry_ops ops).zero ∷ [])) (λ ys. times_determined (suc n) ys xs) o h

    module _ (cs : List Connection) (i : ℕ) where
      outputs_determined : (e : Entry M) → ((o : ℕ) → 1 ≤ count e o → AllByRecursion Agree (targets cs (Inside i o))) → (os : List ℕ) (xs : List (Entry M)) (q : Formation (Entry M)) → SendsAll ops gives V cs i e os xs q → send_all ops f T cs i e os xs ≡ q
      outputs_determined e all [] xs q h = is_determined xs q h
      outputs_determined e all (o ∷ os) xs q h =
          then_determined (Sends ops gives V (targets cs (Inside i o)) (count e o) xs) (SendsAll ops gives V cs i e os) (send ops f T (targets cs (Inside i o)) (count e o) xs) (send_all ops f T cs i e os)
          (send_determined (targets cs (Inside i o)) (count e o) (all o) xs) (outputs_determined e all os) q h

      pub entries_determined : (es : List (Entry M)) → AllByRecursion (λ e. (o : ℕ) → 1 ≤ count e o → AllByRecursion Agree (targets cs (Inside i o))) es → (xs : List (Entry M)) (q : Formation (Entry M)) → Entries ops gives V cs i es xs q → entries ops f T cs i es xs ≡ q
      entries_determined [] all xs q h = reduced_determined xs q h
      entries_determined (e ∷ es) all xs q h =
          then_determined (EntryList ops gives V cs i e) (λ ys. Entries ops gives V cs i es (xs ++ ys)) (send_all ops f T cs i e outputs (amount_alone e.amount ∷ [])) (λ ys. entries ops f T cs i es (xs ++ ys))
          (outputs_determined e all.0 outputs (amount_alone e.amount ∷ [])) (λ ys. entries_determined es all.1 (xs ++ ys)) q h

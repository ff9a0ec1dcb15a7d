-- What the plain function forms stands in the relation. Assumes nothing.
use Rattle.std.proofs.Common.{ℕ, zero, suc, leb, List, [], ◌∷◌, ◌++◌, length, refl, inl, inr}
use Rattle.std.proofs.lemmas.Bool.{cond_both, leb-true, leb-false}
use Rattle.costs.specs.Amounts.{Amounts}
use Rattle.costs.specs.Entries.{amount_alone, entry_ops, count}
use Rattle.costs.specs.Lists.{By, sums}
use Rattle.costs.specs.declared.entry.Entry.{Entry}
use Rattle.sheets.specs.declared.words.Connection.{Connection}
use Rattle.sheets.specs.declared.words.End.{End}
use Rattle.sheets.specs.declared.words.End.TheVariants.{Outside, Inside}
use Rattle.networks.specs.Forming.{Formation, list, long, Then, Reduces}
use Rattle.networks.specs.Networks.{targets, outputs}
use Rattle.networks.specs.Cards.{target_list, Joins, Times, Follows, Sends, SendsAll, Entries, PlaceList, EventList}
use Rattle.networks.specs.Evaluation.{then, reduced, join_times, follow, send, send_all, entries, place_list, event_list}

last : {X : Type 0} (P : Formation X → Type 0) (Q : List X → Formation X → Type 0) (ys : List X) → P (list ys) → (o : Formation X) → Q ys o → Then P Q o
last P Q ys p (list zs) q = (ys, (p, q))
last P Q ys p long q = inr (ys, (p, q))

then_forms : {X : Type 0} (P : Formation X → Type 0) (Q : List X → Formation X → Type 0) (o : Formation X) (f : List X → Formation X) → P o → ((ys : List X) → Q ys (f ys)) → Then P Q (then o f)
then_forms P Q (list ys) f p q = last P Q ys p (f ys) (q ys)
then_forms P Q long f p q = inl p

module _ {M : Type 0} (ops : Amounts M) (f : List (Entry M) → List (Entry M)) where
  reduce_forms : (xs : List (Entry M)) → Reduces (By f) xs (reduced ops f xs)
  reduce_forms xs = cond_both (leb (length (f xs)) 16) (list (f xs)) long (Reduces (By f) xs) (λ e. (refl, leb-true _ _ e)) (λ e. (f xs, (refl, leb-false _ _ e)))

  times_forms : (n : ℕ) (ys xs : List (Entry M)) → Times ops (By f) n ys xs (join_times ops f n ys xs)
  times_forms zero ys xs = refl
  times_forms (suc n) ys xs = then_forms (Joins ops (By f) xs ys) (Times ops (By f) n ys) _ (join_times ops f n ys) (reduce_forms (sums (entry_ops ops) xs ys)) (times_forms n ys)

  follow_forms : (T : ℕ → ℕ → List (Entry M)) (ts : List End) (xs : List (Entry M)) → Follows ops (By f) T ts xs (follow ops f T ts xs)
  follow_forms T [] xs = refl
  follow_forms T (t ∷ ts) xs = then_forms (Joins ops (By f) xs (target_list ops T t)) (Follows ops (By f) T ts) _ (follow ops f T ts) (reduce_forms (sums (entry_ops ops) xs (target_list ops T t))) (follow_forms T ts)

  send_forms : (T : ℕ → ℕ → List (Entry M)) (ts : List End) (n : ℕ) (xs : List (Entry M)) → Sends ops (By f) T ts n xs (send ops f T ts n xs)
  send_forms T [] n xs = refl
  send_forms T (t ∷ ts) zero xs = refl
  send_forms T (t ∷ ts) (suc n) xs = then_forms (Follows ops (By f) T (t ∷ ts) ((entry_ops ops).zero ∷ [])) (λ ys. Times ops (By f) (suc n) ys xs) _ (λ ys. join_times ops f (suc n) ys xs) (follow_forms T (t ∷ ts) ((entry_ops ops).zero ∷ [])) (λ ys. times_forms (suc n) ys xs)

  module _ (T : ℕ → ℕ → List (Entry M)) (cs : List Connection) (i : ℕ) where
    send_all_forms : (e : Entry M) (os : List ℕ) (xs : List (Entry M)) → SendsAll ops (By f) T cs i e os xs (send_all ops f T cs i e os xs)
    send_all_forms e [] xs = refl
    send_all_forms e (o ∷ os) xs = then_forms (Sends ops (By f) T (targets cs (Inside i o)) (count e o) xs) (SendsAll ops (By f) T cs i e os) _ (send_all ops f T cs i e os) (send_forms T (targets cs (Inside i o)) (count e o) xs) (send_all_forms e os)

    entries_forms : (es xs : List (Entry M)) → Entries ops (By f) T cs i es xs (entries ops f T cs i es xs)
    entries_forms [] xs = reduce_forms xs
    entries_forms (e ∷ es) xs = then_forms (SendsAll ops (By f) T cs i e outputs (amount_alone e.amount ∷ [])) (λ ys. Entries ops (By f) T cs i es (xs ++ ys)) _ (λ ys. entries ops f T cs i es (xs ++ ys))
        (send_all_forms e outputs (amount_alone e.amount ∷ [])) (λ ys. entries_forms es (xs ++ ys))

  -- forming comes to what the function says
  pub place_forms : (T : ℕ → ℕ → List (Entry M)) (cs : List Connection) (i : ℕ) (es : List (Entry M)) → PlaceList ops (By f) T cs i es (place_list ops f T cs i es)
  place_forms T cs i es = entries_forms T cs i es []

  pub event_forms : (T : ℕ → ℕ → List (Entry M)) (cs : List Connection) (e : ℕ) → EventList ops (By f) T cs e (event_list ops f T cs e)
  event_forms T cs e = follow_forms T (targets cs (Outside e)) ((entry_ops ops).zero ∷ [])

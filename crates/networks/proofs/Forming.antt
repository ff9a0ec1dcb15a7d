-- The table of lists, one place more at a time. Assumes nothing.
use Rattle.std.proofs.Common.{◌≡◌, ℕ, zero, suc, ◌+◌, ◌*◌, ◌/◌, ◌%◌, ◌<◌, ◌≤◌, List, [], ◌∷◌, ◌++◌, sym, refl, ap, subst, inl, inr, ⊎_elim, arith}
use Rattle.std.specs.List.{ContainsAt as Has, AllByRecursion}
use Rattle.std.proofs.ByRecursion.{has_push_cases}
use Rattle.costs.specs.Amounts.{Amounts}
use Rattle.costs.specs.Entries.{amount_alone, entry_ops, count}
use Rattle.costs.specs.Lists.{Among, Sized}
use Rattle.costs.specs.declared.entry.Entry.{Entry}
use Rattle.costs.proofs.Interface.{among_all, all_among}
use Rattle.order.specs.Order.{Next, Order}
use Rattle.order.proofs.Induction.{has_of_take}
use Rattle.sheets.specs.declared.words.Connection.{Connection}
use Rattle.sheets.specs.declared.words.End.{End}
use Rattle.sheets.specs.declared.words.End.TheVariants.{Outside, Inside}
use Rattle.networks.specs.Forming.{Formation, list, long, Then}
use Rattle.networks.specs.Networks.{Network, targets, outputs, Node, Place, Target, Named, Leads}
use Rattle.networks.specs.Cards.{target_list, Joins, Times, Follows, SourceList, Sends, SendsAll, EntryList, Entries, PlaceList, Formed}
use Rattle.networks.proofs.Places.{source_targets, place_end, whole}

-- what a worked node leads to was worked before
pub closed : {Node : ℕ → Type 0} {leads : ℕ → ℕ → Type 0} {ws : List ℕ} → Order Node leads ws → (n : ℕ) → Has ws n → (m : ℕ) → leads n m → Has ws m
closed {leads = leads} {ws = ws} order n h m way = has_of_take h.0 ws m ((order h.0 h.1).ready m (subst (λ s. leads s m) (sym (h.2 0)) way))

-- the same steps by other means
pub then_same : {X : Type 0} (P P' : Formation X → Type 0) (Q Q' : List X → Formation X → Type 0) → ((o : Formation X) → P o → P' o) → ((ys : List X) (o : Formation X) → Q ys o → Q' ys o) → (o : Formation X) → Then P Q o → Then P' Q' o
then_same P P' Q Q' p q (list zs) h = (h.0, (p (list h.0) h.1.0, q h.0 (list zs) h.1.1))
then_same P P' Q Q' p q long h = ⊎_elim (λ a. inl (p long a)) (λ b. inr (b.0, (p (list b.0) b.1.0, q b.0 long b.1.1))) h

module _ {M : Type 0} (ops : Amounts M) (gives : List (Entry M) → List (Entry M) → Type 0) (T V : ℕ → ℕ → List (Entry M)) where
  -- both tables have the same list of the target
  abbrev pub Alike : End → Type 0
  Alike t = target_list ops V t ≡ target_list ops T t

  follows_same : (ts : List End) → AllByRecursion Alike ts → (xs : List (Entry M)) (o : Formation (Entry M)) → Follows ops gives T ts xs o → Follows ops gives V ts xs o
  follows_same [] all xs o h = h
  follows_same (t ∷ ts) all xs o h =
      then_same (Joins ops gives xs (target_list ops T t)) (Joins ops gives xs (target_list ops V t)) (Follows ops gives T ts) (Follows ops gives V ts)
      (λ p j. subst (λ l. Joins ops gives xs l p) (sym all.0) j) (λ ys p f. follows_same ts all.1 ys p f) o h

  sends_same : (ts : List End) (n : ℕ) → (1 ≤ n → AllByRecursion Alike ts) → (xs : List (Entry M)) (o : Formation (Entry M)) → Sends ops gives T ts n xs o → Sends ops gives V ts n xs o
  sends_same [] n all xs o h = h
  sends_same (t ∷ ts) zero all xs o h = h
  sends_same (t ∷ ts) (suc n) all xs o h =
      then_same (SourceList ops gives T (t ∷ ts)) (SourceList ops gives V (t ∷ ts)) (λ zs. Times ops gives (suc n) zs xs) (λ zs. Times ops gives (suc n) zs xs)
      (λ p s. follows_same (t ∷ ts) (all (omega arith)) ((entry_ops ops).zero ∷ []) p s) (λ ys p q. q) o h

  module _ (cs : List Connection) (i : ℕ) where
    outputs_same : (e : Entry M) → ((o : ℕ) → 1 ≤ count e o → AllByRecursion Alike (targets cs (Inside i o))) → (os : List ℕ) (xs : List (Entry M)) (q : Formation (Entry M)) → SendsAll ops gives T cs i e os xs q → SendsAll ops gives V cs i e os xs q
    outputs_same e all [] xs q h = h
    outputs_same e all (o ∷ os) xs q h =
        then_same (Sends ops gives T (targets cs (Inside i o)) (count e o) xs) (Sends ops gives V (targets cs (Inside i o)) (count e o) xs) (SendsAll ops gives T cs i e os) (SendsAll ops gives V cs i e os)
        (λ p s. sends_same (targets cs (Inside i o)) (count e o) (all o) xs p s) (λ ys p s. outputs_same e all os ys p s) q h

    pub entries_same : (es : List (Entry M)) → AllByRecursion (λ e. (o : ℕ) → 1 ≤ count e o → AllByRecursion Alike (targets cs (Inside i o))) es → (xs : List (Entry M)) (q : Formation (Entry M)) → Entries ops gives T cs i es xs q → Entries ops gives V cs i es xs q
    entries_same [] all xs q h = h
    entries_same (e ∷ es) all xs q h =
        then_same (EntryList ops gives T cs i e) (EntryList ops gives V cs i e) (λ ys. Entries ops gives T cs i es (xs ++ ys)) (λ ys. Entries ops gives V cs i es (xs ++ ys))
        (λ p s. outputs_same e all.0 outputs (amount_alone e.amount ∷ []) p s) (λ ys p s. entries_same es all.1 (xs ++ ys) p s) q h

module _ {M : Type 0} (net : Network) (few : net.outputs ≤ 8) (card : ℕ → ℕ → List (Entry M)) (named : Named net) (narrow : (i : ℕ) → i < net.instances → (net.faces i).inputs ≤ 8) where
  -- what holds outside, and of all places that place n leads to, holds of each target that an entry for it counts
  pub reach_one : (n : ℕ) (P : End → Type 0) → ((p : ℕ) → p < 8 → P (Outside p)) → ((j h : ℕ) → Place net j h → Leads net card n (8 * j + h) → P (Inside j h))
      → (e : Entry M) → Among e (card (n / 8) (n % 8)) → (o : ℕ) → 1 ≤ count e o → (t : End) → Among t (targets net.connections (Inside (n / 8) o)) → P t
  reach_one n P outside inside e listed o counted t among = one t among (among_all (Target net) t (targets net.connections (Inside (n / 8) o)) (source_targets net named (Inside (n / 8) o)) among)
    where
      one : (t : End) → Among t (targets net.connections (Inside (n / 8) o)) → Target net t → P t
      one (Outside p) among target = outside p (omega (arith, target))
      one (Inside j h) among target = inside j h target (record {
        entry = e;
        listed = listed;
        output = o;
        counted = omega arith;
        connected = subst (λ t. Among t (targets net.connections (Inside (n / 8) o))) (sym (place_end net narrow j h target)) among;
      })

  pub reach : (n : ℕ) (P : End → Type 0) → ((p : ℕ) → p < 8 → P (Outside p)) → ((j h : ℕ) → Place net j h → Leads net card n (8 * j + h) → P (Inside j h)) → AllByRecursion (λ e. (o : ℕ) → 1 ≤ count e o → AllByRecursion P (targets net.connections (Inside (n / 8) o))) (card (n / 8) (n % 8))
  reach n P outside inside =
      all_among _ (card (n / 8) (n % 8)) (λ e listed o counted. all_among P (targets net.connections (Inside (n / 8) o)) (reach_one n P outside inside e listed o counted))

  -- list n is written, and the others stay
  pub formed_more : (ops : Amounts M) (gives : List (Entry M) → List (Entry M) → Type 0) (ws : List ℕ) (n : ℕ) (A B : ℕ → List (Entry M)) → Order (Node net) (Leads net card) ws → Next (Node net) (Leads net card) (Has ws) n
      → ((m : ℕ) → Has ws m → Formed ops gives net card (λ i f. A (8 * i + f)) (m / 8) (m % 8))
      → PlaceList ops gives (λ i f. A (8 * i + f)) net.connections (n / 8) (card (n / 8) (n % 8)) (list (B n)) → Sized (B n) → ((m : ℕ) → (m ≡ n → ⊥) → B m ≡ A m)
      → (m : ℕ) → Has (ws ++ n ∷ []) m → Formed ops gives net card (λ i f. B (8 * i + f)) (m / 8) (m % 8)
  formed_more ops gives ws n A B order next was new sized others m h =
      let T : ℕ → ℕ → List (Entry M) = λ i f. A (8 * i + f) in
      let V : ℕ → ℕ → List (Entry M) = λ i f. B (8 * i + f) in
      let kept : (d : ℕ) → Has ws d → B d ≡ A d = λ d w. others d (λ e. next.unworked (subst (Has ws) e w)) in
      ⊎_elim
      (λ old.
      let before = was m old in
      let same = kept (8 * (m / 8) + m % 8) (subst (Has ws) (sym (whole m)) old) in
      let alike = reach m (Alike ops gives T V) (λ p low. refl) (λ j f p leads. kept (8 * j + f) (closed order m old (8 * j + f) leads)) in
      record {
        formed = subst (λ l. PlaceList ops gives V net.connections (m / 8) (card (m / 8) (m % 8)) (list l)) (sym same) (entries_same ops gives T V net.connections (m / 8) (card (m / 8) (m % 8)) alike [] (list (T (m / 8) (m % 8))) before.formed);
        sized = subst Sized (sym same) before.sized;
      })
      (λ is.
      let alike = reach n (Alike ops gives T V) (λ p low. refl) (λ j f p leads. kept (8 * j + f) (next.ready (8 * j + f) leads)) in
      let there : B n ≡ V (n / 8) (n % 8) = ap B (sym (whole n)) in
      subst (λ d. Formed ops gives net card V (d / 8) (d % 8)) is (record {
        formed = subst (λ l. PlaceList ops gives V net.connections (n / 8) (card (n / 8) (n % 8)) (list l)) there (entries_same ops gives T V net.connections (n / 8) (card (n / 8) (n % 8)) alike [] (list (B n)) new);
        sized = subst Sized there sized;
      }))
      (has_push_cases ws n m h)

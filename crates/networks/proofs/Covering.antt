-- The lists of a network cover its runs, for every measure and every reducer. Assumes nothing.
use Rattle.std.proofs.Common.{◌≡◌, ℕ, zero, suc, ◌+◌, ◌*◌, ◌<◌, ◌≤◌, true, List, [], ◌∷◌, refl, ap, ◌∙◌, subst, inl, ⊎_elim, arith}
use Rattle.std.specs.List.{AllByRecursion}
use Rattle.std.proofs.ByRecursion.{All-weaker, All-append}
use Rattle.costs.specs.Amounts.{Amounts, Lawful}
use Rattle.costs.specs.Entries.{amount_alone, one_sent, entry_ops, count}
use Rattle.costs.specs.Lists.{Among, Sized, Sound}
use Rattle.costs.specs.Runs.{Sent, none_sent, once_sent, both_sent, NotBelow, CoversRun, CoversRuns}
use Rattle.costs.specs.declared.entry.Entry.{Entry}
use Rattle.costs.proofs.Interface.{entry_lawful, covers_plus, zero_plus, covers_run_as, covers_run_zero, covers_run_on, covers_run_both, is_run_once, is_run_covered, covered_run}
use Rattle.sheets.specs.declared.words.Connection.{Connection}
use Rattle.sheets.specs.declared.words.End.{End}
use Rattle.sheets.specs.declared.words.End.TheVariants.{Outside, Inside}
use Rattle.networks.specs.Forming.{list}
use Rattle.networks.specs.Networks.{Network, targets, outputs, Place, Target, Named, Fit, Full, NoneFull}
use Rattle.networks.specs.Cards.{target_list, EventList, Formed, Card}
use Rattle.networks.specs.Runs.{repeated, arrivals, Served, nothing_left, arrives_outside, arrives_inside, Run}
use Rattle.networks.specs.Promises.{Covers}
use Rattle.networks.proofs.Places.{all_targets, named_targets, source_targets, place_node, of_place}
use Rattle.networks.proofs.Joining.{Picks, picks_append, entries_over, source_over}

pub all_repeated : {X : Type 0} (P : X → Type 0) (n : ℕ) (xs : List X) → AllByRecursion P xs → AllByRecursion P (repeated n xs)
all_repeated P zero xs all = tt
all_repeated P (suc n) xs all = All-append P xs (repeated n xs) all (all_repeated P n xs all)

all_arrivals : (P : End → Type 0) (cs : List Connection) (i : ℕ) (ns : Sent) → AllByRecursion (λ c. P c.target) cs → (os : List ℕ) → AllByRecursion P (arrivals cs i ns os)
all_arrivals P cs i ns all [] = tt
all_arrivals P cs i ns all (o ∷ os) =
    All-append P (repeated (ns o) (targets cs (Inside i o))) (arrivals cs i ns os) (all_repeated P (ns o) (targets cs (Inside i o)) (all_targets P cs (Inside i o) all)) (all_arrivals P cs i ns all os)

-- what is checked of the counts beneath, by places
pub none_full_at : {M : Type 0} (net : Network) (card : ℕ → ℕ → List (Entry M)) → Fit net card → NoneFull net card → (i f : ℕ) → Place net i f → Full net card i f → ⊥
none_full_at net card fit none i f place full = none (8 * i + f) (place_node net fit.narrow i f place) (of_place net fit.narrow i f place (Full net card) full)

module _ {M : Type 0} {ops : Amounts M} {gives : List (Entry M) → List (Entry M) → Type 0} (laws : Lawful ops) (sound : Sound ops gives)
    (net : Network) (few : net.outputs ≤ 8) (card : ℕ → ℕ → List (Entry M)) (Runs : ℕ → ℕ → M → Sent → Type 0) (named : Named net) (fit : Fit net card) (none : NoneFull net card)
    (covers : (i f : ℕ) → Place net i f → CoversRuns ops (card i f) (Runs i f))
    (T : ℕ → ℕ → List (Entry M)) (formed : (i f : ℕ) → Place net i f → Formed ops gives net card T i f) where
  target_sized : (t : End) → Target net t → Sized (target_list ops T t)
  target_sized (Outside p) h = (omega arith, omega arith)
  target_sized (Inside i f) h = (formed i f h).sized

  sized_targets : (s : End) → AllByRecursion (λ t. Sized (target_list ops T t)) (targets net.connections s)
  sized_targets s = All-weaker _ _ target_sized (targets net.connections s) (source_targets net named s)

  -- below 255 at a connected output, an entry's count is not below a run's in earnest
  enough : (i f : ℕ) → Place net i f → (c : Entry M) → Among c (card i f) → (ns : Sent) → ((o : ℕ) → o < 8 → NotBelow (count c o) (ns o)) → (o : ℕ) → o < 8 → (t : End) → Among t (targets net.connections (Inside i o)) → ns o ≤ count c o
  enough i f place c m ns counts o l t led =
      ⊎_elim
      (λ le. le)
      (λ full. absurd (none_full_at net card fit none i f place (record { entry = c; listed = m; output = o; counted = full; connected = (t, led) })))
      (counts o l)

  -- every agenda is covered by a pick
  covered : {fs : List End} {a : M} {ns : Sent} → Served ops net.connections Runs fs a ns → AllByRecursion (Target net) fs → (x : Entry M) × (Picks ops T fs x × CoversRun ops x a ns)
  covered nothing_left all = ((entry_ops ops).zero, (refl, covers_run_zero laws (entry_ops ops).zero))
  covered (arrives_outside p rest a ns run) all =
      let r = covered run all.1 in
      let start = one_sent ops p in (
        (entry_ops ops).plus start r.0,
        (
          (start, r.0, (inl refl, (r.1.0, refl))),
          subst (λ b. CoversRun ops ((entry_ops ops).plus start r.0) b (both_sent (once_sent p) ns)) (zero_plus laws a)
              (covers_run_both laws start r.0 ops.zero a (once_sent p) ns (is_run_covered laws start ops.zero (once_sent p) (is_run_once ops p (omega (arith, all.0)))) r.1.1),
        ),
      )
  covered (arrives_inside i f rest a ns b ms under run) all =
      let r = covered run (All-append (Target net) (arrivals net.connections i ns outputs) rest (all_arrivals (Target net) net.connections i ns (named_targets net named) outputs) all.1) in
      let p = picks_append laws T (arrivals net.connections i ns outputs) rest r.0 r.1.0 in
      let k = covers i f all.0 a ns under in
      let c = k.entry in
      let start : Entry M = amount_alone c.amount in
      let o = entries_over laws sound T net.connections i (λ o. sized_targets (Inside i o)) c ns (enough i f all.0 c k.listed ns k.covers.counts) p.0 p.2.0
      (card i f) [] (T i f) (omega (arith, (fit.sized i f all.0).1)) k.listed (formed i f all.0).formed in (
        (entry_ops ops).plus o.one p.1,
        (
          (o.one, p.1, (o.listed, (p.2.1.0, refl))),
          covers_run_on laws ((entry_ops ops).plus o.one p.1) ((entry_ops ops).plus start r.0) (ops.plus a b) ms
              (subst (λ v. (entry_ops ops).covers ((entry_ops ops).plus o.one p.1) v ≡ true) ((entry_lawful laws).associative start p.0 p.1 ∙ ap ((entry_ops ops).plus start) p.2.1.1)
              (covers_plus (entry_lawful laws) o.one ((entry_ops ops).plus start p.0) p.1 p.1 o.covers ((entry_lawful laws).reflexive p.1)))
              (covers_run_as ops ((entry_ops ops).plus start r.0) (ops.plus a b) (both_sent none_sent ms) ms (λ o l. omega arith)
              (covers_run_both laws start r.0 a b none_sent ms (record { amount = k.covers.amount; counts = λ o l. inl (omega arith) }) r.1.1)),
        ),
      )

  event_covered : (e : ℕ) (es : List (Entry M)) → EventList ops gives T net.connections e (list es) → CoversRuns ops es (Run ops net.connections Runs e)
  event_covered e es is a ns run =
      let r = covered run (source_targets net named (Outside e)) in
      covered_run laws es r.0 a ns (source_over laws sound T (targets net.connections (Outside e)) es r.0 (sized_targets (Outside e)) is r.1.0) r.1.1

pub network_covers : {M : Type 0} {ops : Amounts M} {gives : List (Entry M) → List (Entry M) → Type 0} → Lawful ops → Sound ops gives
    → (net : Network) → net.outputs ≤ 8 → (card : ℕ → ℕ → List (Entry M)) (Runs : ℕ → ℕ → M → Sent → Type 0) → Named net → Fit net card → NoneFull net card
    → (lists : ℕ → List (Entry M)) → Card ops gives net card lists → Covers ops net card Runs lists
network_covers laws sound net few card Runs named fit none lists c covers e within =
    event_covered laws sound net few card Runs named fit none covers c.table c.worked.places e (lists e) (c.events e within)

-- Tables that stand for a book keep the law. Assumes nothing.
use Rattle.std.proofs.Common.{◌≡◌, ℕ, zero, suc, ◌+◌, ◌<◌, List, [], length, get_or, sym, refl, ap, ◌∙◌, subst, arith}
use Rattle.costs.specs.Amounts.{Amounts, Lawful}
use Rattle.costs.specs.Lists.{Among, Selects, Sound as SoundReducer}
use Rattle.costs.specs.Runs.{Sent, CoversRuns, AreRuns, CoveredRun, RunOf}
use Rattle.costs.specs.declared.entry.Entry.{Entry}
use Rattle.charts.specs.Runs.{RunBy}
use Rattle.charts.proofs.Promises.{Shown, shown}
use Rattle.networks.specs.Networks.{Place, Fit}
use Rattle.networks.specs.Promises.{lists_from}
use Rattle.networks.specs.Runs.{Served, nothing_left, arrives_outside, arrives_inside, Run as NetworkRun}
use Rattle.networks.proofs.Attaining.{network_attained}
use Rattle.networks.proofs.Covering.{network_covers}
use Rattle.sheets.specs.declared.words.End.{End}
use Rattle.sheets.specs.declared.words.Kind.{Kind}
use Rattle.sheets.specs.declared.words.Kind.TheVariants.{Basic, Service, Composite}
use Rattle.library.specs.Books.{Rules, Book, size, at, inputs_of, instance_of, Stale, Current}
use Rattle.library.specs.Checks.{blocks_of, faces_beneath, cards_beneath, network, NamedBy, FormedBy}
use Rattle.library.specs.Law.{Sound}
use Rattle.library.specs.Memory.{BookFacts, Stands}
use Rattle.library.specs.Runs.{Run, alone, inside, Serves, nothing_left as none_left, arrives_outside as goes_outside, arrives_inside as goes_inside}
use Rattle.library.specs.declared.row.Row.{Row}
use Rattle.library.proofs.Books.{among_at}
use Rattle.library.proofs.Reading.{list_held}

-- a kind that is no composite
abbrev Plain : Kind → Type 0
Plain Basic = Unit {0}
Plain Service = Unit {0}
Plain Composite = ⊥

-- event e of the lists of all events
pub get_or_lists_from : {X : Type 0} (lists : ℕ → List X) (n d e : ℕ) → e < n → get_or (lists_from lists n d) e [] ≡ lists (d + e)
get_or_lists_from lists zero d e lt = absurd (omega arith)
get_or_lists_from lists (suc n) d zero lt = ap lists (let z : d ≡ d + 0 = omega arith in z)
get_or_lists_from lists (suc n) d (suc e) lt = get_or_lists_from lists n (d + 1) e (omega arith) ∙ ap lists (let z : (d + 1) + e ≡ d + suc e = omega arith in z)

pub get_or_lists : {X : Type 0} (lists : ℕ → List X) (n e : ℕ) → e < n → get_or (lists_from lists n 0) e [] ≡ lists e
get_or_lists lists n e lt = get_or_lists_from lists n 0 e lt ∙ ap lists (let z : 0 + e ≡ e = omega arith in z)

module _ {M : Type 0} (ops : Amounts M) (meant : List ℕ → M) (b : Book M) where
  -- the runs of the block of instance i in composite n
  abbrev Under : ℕ → ℕ → ℕ → M → Sent → Type 0
  Under n i f a ns = Run ops meant b (instance_of (at b n).sheet i) f a ns

  -- arrivals served in the book are served over the runs beneath, and the other way
  to_served : {n : ℕ} {fs : List End} {a : M} {ns : Sent} → Serves ops meant b n fs a ns → Served ops (at b n).sheet.connections (Under n) fs a ns
  to_served (none_left n) = nothing_left
  to_served (goes_outside n p rest a ns more) = arrives_outside p rest a ns (to_served more)
  to_served (goes_inside n i f rest a ns c ms run more) = arrives_inside i f rest a ns c ms run (to_served more)

  from_served : (n : ℕ) {fs : List End} {a : M} {ns : Sent} → Served ops (at b n).sheet.connections (Under n) fs a ns → Serves ops meant b n fs a ns
  from_served n nothing_left = none_left n
  from_served n (arrives_outside p rest a ns more) = goes_outside n p rest a ns (from_served n more)
  from_served n (arrives_inside i f rest a ns c ms run more) = goes_inside n i f rest a ns c ms run (from_served n more)

module _ {M : Type 0} (rules : Rules M) (b : Book M) (facts : BookFacts rules b) where
  -- what stands beneath a current block is an earlier, current block
  beneath_current : (n i : ℕ) → Current b n → i < length (at b n).sheet.instances → (instance_of (at b n).sheet i < n) × (Stale b (instance_of (at b n).sheet i) → ⊥)
  beneath_current n i cur lt =
      let on = among_at (at b n).sheet.instances i 255 lt in
      ((facts.blocks n cur.0).earlier _ on, λ stale. cur.1 (facts.times.upward n _ cur.0 on stale))

  -- the cards beneath are fit
  pub fit : (n : ℕ) → Current b n → Fit (network (blocks_of b) (at b n).sheet) (cards_beneath (blocks_of b) (at b n).sheet)
  fit n cur = record {
    narrow = λ i lt. let low = (beneath_current n i cur lt).0 in (facts.blocks (instance_of (at b n).sheet i) (omega (arith, low, cur.0))).form.few_inputs;
    sized = λ i f place. let low = (beneath_current n i cur place.0).0 in (facts.blocks (instance_of (at b n).sheet i) (omega (arith, low, cur.0))).sized f place.1;
  }

  module _ (P : ℕ → ℕ → Type 0) where
    -- P holds of the events of the current blocks below n
    abbrev Below : ℕ → Type 0
    Below n = (m : ℕ) → m < n → Current b m → (f : ℕ) → f < inputs_of b m → P m f

    at_places : (n : ℕ) → Current b n → Below n → (i f : ℕ) → Place (network (blocks_of b) (at b n).sheet) i f → P (instance_of (at b n).sheet i) f
    at_places n cur below i f place =
        let h = beneath_current n i cur place.0 in
        below (instance_of (at b n).sheet i) h.0 (omega (arith, h.0, cur.0), h.1) f place.1

    -- what holds of a block where it holds of those below holds of every block
    by_number : ((n : ℕ) → Below n → Current b n → (e : ℕ) → e < inputs_of b n → P n e) → (k : ℕ) → Below k
    by_number step zero m lt = absurd (omega arith)
    by_number step (suc k) m lt = step m (λ j less. by_number step k j (omega arith))

    every : ((n : ℕ) → Below n → Current b n → (e : ℕ) → e < inputs_of b n → P n e) → (n : ℕ) → Current b n → (e : ℕ) → e < inputs_of b n → P n e
    every step n = by_number step (suc n) n (omega arith)

  -- by the kind of block: what its sheet names, and how its card is formed
  named_by : (n : ℕ) (k : Kind) → n < size b → (at b n).sheet.face.kind ≡ k → NamedBy (faces_beneath (blocks_of b) (at b n).sheet) (at b n).sheet k
  named_by n k lt is = subst (NamedBy (faces_beneath (blocks_of b) (at b n).sheet) (at b n).sheet) is (facts.blocks n lt).named

  formed_by : (n : ℕ) (k : Kind) → Current b n → (at b n).sheet.face.kind ≡ k → FormedBy rules (faces_beneath (blocks_of b) (at b n).sheet) (cards_beneath (blocks_of b) (at b n).sheet) (at b n).sheet k (at b n).card
  formed_by n k cur is = subst (λ x. FormedBy rules (faces_beneath (blocks_of b) (at b n).sheet) (cards_beneath (blocks_of b) (at b n).sheet) (at b n).sheet x (at b n).card) is ((facts.blocks n cur.0).card cur.1).formed

  module _ (laws : Lawful rules.ops) (sound : SoundReducer rules.ops rules.gives) where
    -- all that is shown of the lists of a basic or a service block
    chart_shown : (n : ℕ) (k : Kind) → Current b n → (at b n).sheet.face.kind ≡ k → (k ≡ Composite → ⊥)
        → Shown rules.ops rules.meant rules.gives (at b n).sheet (at b n).sheet.face.kind (lists_from (at b n).card (inputs_of b n) 0)
    chart_shown n Basic cur is other =
        subst (λ kind. Shown rules.ops rules.meant rules.gives (at b n).sheet kind (lists_from (at b n).card (inputs_of b n) 0)) (sym is)
        (shown laws rules.meant sound (at b n).sheet (facts.blocks n cur.0).form (named_by n Basic cur.0 is) (lists_from (at b n).card (inputs_of b n) 0) Basic is (formed_by n Basic cur is))
    chart_shown n Service cur is other =
        subst (λ kind. Shown rules.ops rules.meant rules.gives (at b n).sheet kind (lists_from (at b n).card (inputs_of b n) 0)) (sym is)
        (shown laws rules.meant sound (at b n).sheet (facts.blocks n cur.0).form (named_by n Service cur.0 is) (lists_from (at b n).card (inputs_of b n) 0) Service is (formed_by n Service cur is))
    chart_shown n Composite cur is other = absurd (other refl)

    -- a composite has no run by its sheet alone
    not_composite : (n e : ℕ) (a : M) (ns : Sent) (k : Kind) → k ≡ Composite → RunBy rules.ops rules.meant (at b n).sheet k e a ns → ⊥
    not_composite n e a ns k is run = subst (λ x. RunBy rules.ops rules.meant (at b n).sheet x e a ns) is run

    -- the list of an event covers every run
    abbrev Covered : ℕ → ℕ → Type 0
    Covered n e = CoversRuns rules.ops ((at b n).card e) (Run rules.ops rules.meant b n e)

    run_covered : {n e : ℕ} {a : M} {ns : Sent} → Run rules.ops rules.meant b n e a ns → Below Covered n → Current b n → e < inputs_of b n → CoveredRun rules.ops ((at b n).card e) a ns
    run_covered (alone n e a ns run) below cur within =
        let h = chart_shown n (at b n).sheet.face.kind cur refl (λ is. not_composite n e a ns (at b n).sheet.face.kind is run) in
        subst (λ es. CoveredRun rules.ops es a ns) (get_or_lists (at b n).card (inputs_of b n) e within) (h.covers e within a ns run)
    run_covered (inside n e a ns is serves) below cur within =
        let formed = formed_by n Composite cur is in
        let named = named_by n Composite cur.0 is in
        network_covers laws sound (network (blocks_of b) (at b n).sheet) (facts.blocks n cur.0).form.few_outputs (cards_beneath (blocks_of b) (at b n).sheet) (Under rules.ops rules.meant b n)
        named.0 (fit n cur) formed.none_full (at b n).card formed.formed (at_places Covered n cur below) e within a ns (to_served rules.ops rules.meant b serves)

    pub every_covered : (n : ℕ) → Current b n → (e : ℕ) → e < inputs_of b n → Covered n e
    every_covered = every Covered (λ n below cur e within a ns run. run_covered run below cur within)

    module _ (selects : Selects rules.gives) where
      -- each entry is a run's
      abbrev Attained : ℕ → ℕ → Type 0
      Attained n e = AreRuns ((at b n).card e) (Run rules.ops rules.meant b n e)

      -- the runs of a basic or a service block, and of a composite, are runs of the book
      as_alone : (n e : ℕ) (z : Entry M) → RunOf (RunBy rules.ops rules.meant (at b n).sheet (at b n).sheet.face.kind e) z → RunOf (Run rules.ops rules.meant b n e) z
      as_alone n e z r = record { amount = r.amount; sent = r.sent; run = alone n e r.amount r.sent r.run; is = r.is }

      as_inside : (n e : ℕ) (z : Entry M) → (at b n).sheet.face.kind ≡ Composite → RunOf (NetworkRun rules.ops (at b n).sheet.connections (Under rules.ops rules.meant b n) e) z → RunOf (Run rules.ops rules.meant b n e) z
      as_inside n e z is r = record { amount = r.amount; sent = r.sent; run = inside n e r.amount r.sent is (from_served rules.ops rules.meant b n r.run); is = r.is }

      chart_attained : (n : ℕ) (k : Kind) → Current b n → (at b n).sheet.face.kind ≡ k → (k ≡ Composite → ⊥) → (e : ℕ) → e < inputs_of b n → Attained n e
      chart_attained n k cur is other e within z m =
          as_alone n e z ((chart_shown n k cur is other).attains selects e within z (subst (Among z) (sym (get_or_lists (at b n).card (inputs_of b n) e within)) m))

      kind_attained : (n : ℕ) (k : Kind) → Below Attained n → Current b n → (at b n).sheet.face.kind ≡ k → (e : ℕ) → e < inputs_of b n → Attained n e
      kind_attained n Basic below cur is e within z m = chart_attained n Basic cur is (λ x. subst Plain x tt) e within z m
      kind_attained n Service below cur is e within z m = chart_attained n Service cur is (λ x. subst Plain x tt) e within z m
      kind_attained n Composite below cur is e within z m =
          let formed = formed_by n Composite cur is in
          let named = named_by n Composite cur.0 is in
          as_inside n e z is (network_attained laws selects (network (blocks_of b) (at b n).sheet) (facts.blocks n cur.0).form.few_outputs (cards_beneath (blocks_of b) (at b n).sheet) (Under rules.ops rules.meant b n)
          named.0 (fit n cur) formed.none_full (at b n).card formed.formed (at_places Attained n cur below) e within z m)

      pub every_attained : (n : ℕ) → Current b n → (e : ℕ) → e < inputs_of b n → Attained n e
      every_attained = every Attained (λ n below cur. kind_attained n (at b n).sheet.face.kind below cur refl)

-- the law
pub stands_sound : {M : Type 0} (rules : Rules M) → Lawful rules.ops → SoundReducer rules.ops rules.gives → (b : Book M) (shelf : List ℕ) (index : List Row) (cards : List (Entry M))
    → Stands rules b shelf index cards → Sound rules b index cards
stands_sound rules laws sound b shelf index cards st = record {
  holds = λ n e lt. list_held st n e lt;
  covers = λ n e cur within. subst (λ es. CoversRuns rules.ops es (Run rules.ops rules.meant b n e)) (sym (list_held st n e cur.0)) (every_covered rules b st.book laws sound n cur e within);
  marked = λ n lt. (st.index_has.marked n lt, st.index_has.stale n lt);
  attained = λ selects n e cur within. subst (λ es. AreRuns es (Run rules.ops rules.meant b n e)) (sym (list_held st n e cur.0)) (every_attained rules b st.book laws sound selects n cur e within);
}

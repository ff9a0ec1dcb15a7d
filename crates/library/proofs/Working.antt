-- What the crates beneath promise of a card and of names, in the library's words. Assumes nothing.
use Rattle.std.proofs.Common.{◌≡◌, ℕ, zero, suc, ◌+◌, ◌*◌, ◌<◌, ◌≤◌, List, [], ◌∷◌, get_or, take, drop, Err, sym, refl, ap, ◌∙◌, subst, inl, inr}
use Rattle.std.specs.List.{AllByRecursion}
use Rattle.std.proofs.ByRecursion.{All-get_or, All-take}
use Rattle.costs.specs.Lists.{Sized}
use Rattle.costs.specs.declared.entry.Entry.{Entry}
use Rattle.charts.specs.Charts.{Named as NamedChart, NamedAction, NamedTransition, NamedEntry}
use Rattle.charts.specs.Forming.{made}
use Rattle.charts.specs.Naming.{says, Naming, UnnamedAt, in_state, in_transition, in_entry}
use Rattle.charts.specs.Refusals.{CardBy, RefusedBy, lists_at, place}
use Rattle.charts.specs.Theorems.{Whole}
use Rattle.charts.specs.declared.refusal.Refusal.{Refusal as ChartRefusal}
use Rattle.networks.specs.Networks.{Network, network_of, Named as NamedNetwork, NamedConnection}
use Rattle.networks.specs.Promises.{lists_from}
use Rattle.networks.specs.Refusals.{Misnamed as MisnamedNetwork, Distinct, Unworked, Carded}
use Rattle.networks.specs.Rows.{list_at}
use Rattle.networks.specs.declared.beneath.Face.{Face}
use Rattle.networks.specs.declared.refusal.Refusal.{Refusal as NetworkRefusal}
use Rattle.sheets.specs.Sheets.{Sheet}
use Rattle.sheets.specs.declared.opened.Checked.{Checked}
use Rattle.sheets.specs.declared.words.Kind.{Kind}
use Rattle.sheets.specs.declared.words.Kind.TheVariants.{Basic, Service, Composite}
use Rattle.library.specs.Books.{Rules}
use Rattle.library.specs.Checks.{StopsBy, FormedBy, CardOver}
use Rattle.library.specs.Refusals.{by_chart, by_network}
use Rattle.library.proofs.Soundness.{get_or_lists}

lists_are : {X : Type 0} (rows : List X) (lens : List ℕ) (n e : ℕ) → lists_at rows lens n e ≡ lists_from (list_at rows lens) n e
lists_are rows lens zero e = refl
lists_are rows lens (suc n) e = ap (λ l. list_at rows lens e ∷ l) (lists_are rows lens n (e + 1))

module _ {M : Type 0} (rules : Rules M) (faces : ℕ → Face) (cards : ℕ → ℕ → List (Entry M)) (s : Sheet) where
  -- the card of a basic or a service block
  formed_chart : (kind : Kind) → (kind ≡ Composite → ⊥) → (rows : List (Entry M)) (lens : List ℕ) → CardBy rules.ops rules.meant rules.gives s kind (made (lists_at rows lens s.face.inputs 0))
      → FormedBy rules faces cards s kind (list_at rows lens)
  formed_chart Basic other rows lens h = subst (λ l. CardBy rules.ops rules.meant rules.gives s Basic (made l)) (lists_are rows lens s.face.inputs 0) h
  formed_chart Service other rows lens h = subst (λ l. CardBy rules.ops rules.meant rules.gives s Service (made l)) (lists_are rows lens s.face.inputs 0) h
  formed_chart Composite other rows lens h = absurd (other refl)

  none_past : (rows : List (Entry M)) (lens : List ℕ) → ((e : ℕ) → s.face.inputs ≤ e → get_or lens e 0 ≡ 0) → (e : ℕ) → s.face.inputs ≤ e → list_at rows lens e ≡ []
  none_past rows lens unused e high = ap (λ l. take l (drop (16 * e) rows)) (unused e high)

  pub chart_card : (s.face.kind ≡ Composite → ⊥) → (rows : List (Entry M)) (lens : List ℕ) → CardBy rules.ops rules.meant rules.gives s s.face.kind (made (lists_at rows lens s.face.inputs 0))
      → ((e : ℕ) → s.face.inputs ≤ e → get_or lens e 0 ≡ 0) → CardOver rules faces cards s (list_at rows lens)
  chart_card other rows lens h unused = record { formed = formed_chart s.face.kind other rows lens h; none = none_past rows lens unused }

  stops_chart : (kind : Kind) → (kind ≡ Composite → ⊥) → (e : ChartRefusal) → RefusedBy rules.ops rules.meant rules.gives s kind e → StopsBy rules faces cards s kind (by_chart e)
  stops_chart Basic other e h = record { refusal = e; is = h; as_told = refl }
  stops_chart Service other e h = record { refusal = e; is = h; as_told = refl }
  stops_chart Composite other e h = absurd (other refl)

  -- the card of a composite
  pub network_card : s.face.kind ≡ Composite → (rows : List (Entry M)) (lens : List ℕ) → Carded rules.ops rules.gives (network_of s faces) cards (list_at rows lens)
      → ((e : ℕ) → s.face.inputs ≤ e → get_or lens e 0 ≡ 0) → CardOver rules faces cards s (list_at rows lens)
  network_card is rows lens h unused = record { formed = subst (λ k. FormedBy rules faces cards s k (list_at rows lens)) (sym is) h; none = none_past rows lens unused }

  pub network_stops : s.face.kind ≡ Composite → (e : NetworkRefusal) → Unworked rules.ops rules.gives (network_of s faces) cards e → StopsBy rules faces cards s s.face.kind (by_network e)
  network_stops is e h = subst (λ k. StopsBy rules faces cards s k (by_network e)) (sym is) (record { refusal = e; is = h; as_told = refl })

  -- a list for each input has 1 to 16 entries
  pub chart_sized : (rows : List (Entry M)) (lens : List ℕ) → Whole rules.ops rules.meant s (lists_at rows lens s.face.inputs 0) → (e : ℕ) → e < s.face.inputs → Sized (list_at rows lens e)
  chart_sized rows lens h e within = subst Sized (ap (λ l. get_or l e []) (lists_are rows lens s.face.inputs 0) ∙ get_or_lists (list_at rows lens) s.face.inputs e within) (h.sized e within)

-- where every number names something the check of names does not refuse
pub chart_passes : (c : Checked) → NamedChart (says c) → (e : ChartRefusal) → Naming c (Err e) → ⊥
chart_passes c named e h = refuted h.2
  where
    refuted : UnnamedAt c (place e) → ⊥
    refuted (in_state k first at) = first.fails (All-take (AllByRecursion (NamedAction (says c))) (k + 1) (says c).states named.states)
    refuted (in_transition k states first at) = first.fails (All-take (NamedTransition (says c)) (k + 1) (says c).transitions named.transitions)
    refuted (in_entry k states transitions first at) = first.fails (All-take (NamedEntry (says c)) (k + 1) (says c).entries named.entries)

pub network_passes : (net : Network) (offsets : List ℕ) → NamedNetwork net → Distinct net.connections → (e : NetworkRefusal) → MisnamedNetwork net offsets e → ⊥
network_passes net offsets named distinct e (inl h) = let p = h.place_is in p.1.0.wrong (All-get_or (NamedConnection net) net.connections p.0 _ p.1.0.within named)
network_passes net offsets named distinct e (inr h) = let p = h.1.place_is in distinct p.0 p.1.0.within p.1.0.repeated

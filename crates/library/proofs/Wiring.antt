-- Checks 5 and 6 of a composite turn down at one place at most, and not where they pass. Assumes nothing.
use Rattle.std.proofs.Common.{◌≡◌, ℕ, ◌<◌, List, take, sym, ap, ◌∙◌, subst, inl, inr, ⊎_elim, arith}
use Rattle.std.proofs.ByRecursion.{All-get_or}
use Rattle.std.proofs.lemmas.List.{get_or-take, length-take-le}
use Rattle.std.proofs.lemmas.Bool.{cases_order}
use Rattle.networks.specs.Networks.{Network, network_of, Named as NamedNetwork, NamedConnection}
use Rattle.networks.specs.Refusals.{no_connection, FirstUnnamed, FirstRepeated, Misnamed as MisnamedNetwork, number, level, place}
use Rattle.networks.specs.declared.beneath.Face.{Face}
use Rattle.networks.specs.declared.refusal.Refusal.{Refusal}
use Rattle.sheets.specs.Sheets.{sheet_of}
use Rattle.sheets.specs.declared.words.Kind.{Kind}
use Rattle.sheets.specs.declared.words.Kind.TheVariants.{Basic, Service, Composite}
use Rattle.library.specs.Checks.{Miswired, MisnamedBy, NamedBy}
use Rattle.library.specs.Refusals.{Told}
use Rattle.library.proofs.Deciding.{same_told, placed_one, chart_one, chart_apart}
use Rattle.library.proofs.Working.{network_passes}

module _ (net : Network) where
  unnamed_low : (j k : ℕ) → j < k → FirstUnnamed net j → FirstUnnamed net k → ⊥
  unnamed_low j k lt g h =
      g.wrong (subst (NamedConnection net) (get_or-take k net.connections j no_connection lt)
      (All-get_or (NamedConnection net) (take k net.connections) j no_connection (omega (arith, lt, length-take-le k net.connections (omega (arith, h.within)))) h.before))

  unnamed_one : (j k : ℕ) → FirstUnnamed net j → FirstUnnamed net k → j ≡ k
  unnamed_one j k g h = ⊎_elim (λ e. e) (λ apart. ⊎_elim (λ lt. absurd (unnamed_low j k lt g h)) (λ gt. absurd (unnamed_low k j gt h g)) apart) (cases_order j k)

  repeated_one : (j k : ℕ) → FirstRepeated net.connections j → FirstRepeated net.connections k → j ≡ k
  repeated_one j k g h = ⊎_elim (λ e. e) (λ apart. ⊎_elim (λ lt. absurd (h.before j lt g.repeated)) (λ gt. absurd (g.before k gt h.repeated)) apart) (cases_order j k)

  unnamed_apart : (k : ℕ) → FirstUnnamed net k → NamedNetwork net → ⊥
  unnamed_apart k h named = h.wrong (All-get_or (NamedConnection net) net.connections k no_connection h.within named)

  -- two refusals of the names agree in number, level and place
  pub record Alike (d e : Refusal) : Type 0 where
    pub numbers : number d ≡ number e
    pub levels : level d ≡ level e
    pub places : place d ≡ place e

  misnamed_one : (offsets : List ℕ) (d e : Refusal) → MisnamedNetwork net offsets d → MisnamedNetwork net offsets e → Alike d e
  misnamed_one offsets d e (inl g) (inl h) =
      let p = g.place_is in
      let q = h.place_is in
      record {
        numbers = g.number_is ∙ sym h.number_is;
        levels = g.level_is ∙ sym h.level_is;
        places = placed_one offsets p.0 q.0 (place d) (place e) (unnamed_one p.0 q.0 p.1.0 q.1.0) p.1.1 q.1.1;
      }
  misnamed_one offsets d e (inl g) (inr h) = absurd (unnamed_apart g.place_is.0 g.place_is.1.0 h.0)
  misnamed_one offsets d e (inr g) (inl h) = absurd (unnamed_apart h.place_is.0 h.place_is.1.0 g.0)
  misnamed_one offsets d e (inr g) (inr h) =
      let p = g.1.place_is in
      let q = h.1.place_is in
      record {
        numbers = g.1.number_is ∙ sym h.1.number_is;
        levels = g.1.level_is ∙ sym h.1.level_is;
        places = placed_one offsets p.0 q.0 (place d) (place e) (repeated_one p.0 q.0 p.1.0 q.1.0) p.1.1 q.1.1;
      }

  miswired_one : (bs : List ℕ) (t u : Told) → Miswired net bs t → Miswired net bs u → t ≡ u
  miswired_one bs t u g h =
      let a = misnamed_one _ g.refusal h.refusal g.is h.is in
      same_told t u (ap (λ (x : Told). x.number) g.as_told ∙ a.numbers ∙ sym (ap (λ (x : Told). x.number) h.as_told))
      (ap (λ (x : Told). x.level) g.as_told ∙ a.levels ∙ sym (ap (λ (x : Told). x.level) h.as_told))
      (ap (λ (x : Told). x.place) g.as_told ∙ a.places ∙ sym (ap (λ (x : Told). x.place) h.as_told))

-- by the kind of block
module _ (faces : ℕ → Face) (w : ℕ) (bs : List ℕ) where
  pub names_one : (kind : Kind) (t u : Told) → MisnamedBy faces w bs kind t → MisnamedBy faces w bs kind u → t ≡ u
  names_one Basic t u g h = chart_one w bs t u g h
  names_one Service t u g h = chart_one w bs t u g h
  names_one Composite t u g h = miswired_one (network_of (sheet_of w bs) faces) bs t u g h

  pub names_apart : (kind : Kind) (t : Told) → MisnamedBy faces w bs kind t → NamedBy faces (sheet_of w bs) kind → ⊥
  names_apart Basic t h named = chart_apart w bs t h named
  names_apart Service t h named = chart_apart w bs t h named
  names_apart Composite t h named = network_passes (network_of (sheet_of w bs) faces) _ named.0 named.1 h.refusal h.is

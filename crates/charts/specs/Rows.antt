-- The lists of a chart in lent rows: what a forming came to, how far the working has come, and the card. Assumes nothing.
use Rattle.std.specs.Prelude.{◌≡◌, ℕ, ◌+◌, ◌-◌, ◌*◌, ◌<◌, ◌≤◌, Bool, List, [], Some, None, Option, slice_index, slice_index_or}
use Rattle.std.specs.Borrow.{Bor}
use Rattle.std.specs.List.{ContainsAt as Has}
use Rattle.costs.specs.Amounts.{Amounts}
use Rattle.costs.specs.Entries.{entry_ops}
use Rattle.costs.specs.Lists.{Sized}
use Rattle.costs.specs.Forming.{Formation, list, long}
use Rattle.costs.specs.Lent.{list_at, Lent, Padded}
use Rattle.costs.specs.declared.entry.Entry.{Entry}
use Rattle.sheets.specs.Sheets.{Sheet}
use Rattle.sheets.specs.declared.words.Kind.{Kind}
use Rattle.sheets.specs.declared.words.Kind.TheVariants.{Basic}
use Rattle.sheets.specs.declared.words.Transition.{Transition}
use Rattle.charts.specs.Forming.{Outcome, made}
use Rattle.charts.specs.Cards.{Events, States, EventBy, BasicCard}
use Rattle.charts.specs.Refusals.{lists_at, CardBy}

-- a test of transitions, by its answers, decides p
abbrev pub Tests : (Transition → Bool → Type 0) → (Transition → Bool) → Type 0
Tests answers p = (t : Transition) (b : Bool) → answers t b → b ≡ p t

-- what a forming came to: a list of 1 to 16 entries, or a stop at a reduced list above 16
abbrev pub Formed : {X : Type 0} → (Formation X → Type 0) → Option (Bor (List X)) → Type 0
Formed P (Some es) = P (list es.now) × Sized es.now
Formed P None = P long

-- on a card of eight lists: rows past a list hold x
abbrev pub PaddedCard : {X : Type 0} → X → List X → List ℕ → Type 0
PaddedCard x rows lens = (e j : ℕ) → e < 8 → slice_index lens e ≤ j → j < 16 → slice_index_or rows (16 * e + j) x ≡ x

-- the eight lengths: each list has 16 entries at most, and what is no input has none
pub record Lengths (inputs : ℕ) (lens : List ℕ) : Type 0 where
  pub short : (e : ℕ) → slice_index lens e ≤ 16
  pub unused : (e : ℕ) → inputs ≤ e → slice_index lens e ≡ 0

module _ {M : Type 0} (ops : Amounts M) (meant : List ℕ → M) (gives : List (Entry M) → List (Entry M) → Type 0) (sheet : Sheet) where
  -- of the states ws those done have their lists in the rows; what the rest comes to from there, the whole comes to
  pub record Working (ws done rest : List ℕ) (rows : List (Entry M)) (lens : List ℕ) : Type 0 where
    pub lent : Lent rows lens
    pub filled : (s : ℕ) → Has done s → 1 ≤ slice_index lens s
    pub table : ℕ → List (Entry M)
    pub same : (t : ℕ) → table t ≡ list_at rows lens t
    pub more : (o : Outcome (Entry M)) → States ops meant gives sheet rest table (λ T. Events (EventBy ops meant gives sheet Basic T) sheet.face.inputs 0 []) o → BasicCard ops meant gives sheet ws o

  -- the card in its rows: the lists of all events, zero entries past each, and nothing for what is no input
  pub record Carded (kind : Kind) (rows : List (Entry M)) (lens : List ℕ) : Type 0 where
    pub card : CardBy ops meant gives sheet kind (made (lists_at rows lens sheet.face.inputs 0))
    pub lent : Lent rows lens
    pub padded : Padded (entry_ops ops).zero rows lens
    pub unused : (e : ℕ) → sheet.face.inputs ≤ e → slice_index lens e ≡ 0

-- of all events those below e have their lists in the rows; what the rest comes to from there, the whole comes to
pub record Listing {X : Type 0} (P : ℕ → Formation X → Type 0) (all e : ℕ) (zero : X) (rows : List X) (lens : List ℕ) : Type 0 where
  pub lent : Lent rows lens
  pub padded : Padded zero rows lens
  pub unused : (d : ℕ) → e ≤ d → slice_index lens d ≡ 0
  pub more : (o : Outcome X) → Events P (all - e) e (lists_at rows lens e 0) o → Events P all 0 [] o

-- the lists of all events in their rows, x past each, with their lengths; nothing for what is no input
pub record Evented {X : Type 0} (P : ℕ → Formation X → Type 0) (inputs : ℕ) (x : X) (rows : List X) (lens : List ℕ) : Type 0 where
  pub events : Events P inputs 0 [] (made (lists_at rows lens inputs 0))
  pub lent : Lent rows lens
  pub padded : Padded x rows lens
  pub unused : (e : ℕ) → inputs ≤ e → slice_index lens e ≡ 0

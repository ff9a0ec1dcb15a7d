-- What the working left in its rows is a card in them. Assumes nothing.
use Rattle.std.proofs.Common.{◌≡◌, ℕ, ◌+◌, ◌*◌, ◌<◌, ◌≤◌, List, [], length, get_or, take, drop, sym, ap, ◌∙◌, subst, subst₂, ⊎_elim, arith}
use Rattle.std.proofs.lemmas.List.{length-take, length-drop}
use Rattle.std.proofs.lemmas.Bool.{cases_lt}
use Rattle.costs.specs.Lists.{Sized}
use Rattle.costs.specs.declared.entry.Entry.{Entry}
use Rattle.charts.specs.Charts.{Named as NamedChart}
use Rattle.networks.specs.Rows.{list_at, Finished}
use Rattle.networks.specs.declared.beneath.Face.{Face}
use Rattle.networks.proofs.Small.{length_list_at}
use Rattle.sheets.specs.Sheets.{sheet_of, offsets_of}
use Rattle.sheets.specs.declared.words.Item.TheVariants.{Connection}
use Rattle.sheets.specs.declared.words.Kind.{Kind}
use Rattle.sheets.specs.declared.words.Kind.TheVariants.{Basic, Service, Composite}
use Rattle.networks.specs.Networks.{network_of}
use Rattle.library.specs.Checks.{UnnamedChart, MisnamedBy, NamedBy}
use Rattle.library.specs.Placing.{faces_kept, cards_kept, CardIn}
use Rattle.library.specs.Refusals.{Told}
use Rattle.library.specs.Tables.{lens_of, card_rows}
use Rattle.library.specs.declared.row.Row.{Row}
use Rattle.library.proofs.Rows.{rows_of_card, lens_of_card, list_off}
use Rattle.library.proofs.Working.{chart_passes, network_passes}

-- lists of 1 to 16 entries, zero entries past each, and nothing for what is no input
module _ {M : Type 0} (zero' : Entry M) (inputs : ℕ) (rows : List (Entry M)) (lens : List ℕ) (few : inputs ≤ 8) (room : 256 ≤ length rows) (eight : length lens ≡ 8)
    (sized : (e : ℕ) → e < inputs → Sized (list_at rows lens e)) (unused : (e : ℕ) → inputs ≤ e → get_or lens e 0 ≡ 0)
    (zeros : (e j : ℕ) → e < 8 → get_or lens e 0 ≤ j → j < 16 → get_or rows (16 * e + j) zero' ≡ zero') where
  short : (e : ℕ) → get_or lens e 0 ≤ 16
  short e =
      ⊎_elim (λ low. omega (arith, low, (sized e low).1, length-take (get_or lens e 0) (drop (16 * e) rows), length-drop (16 * e) rows))
      (λ high. omega (arith, unused e high)) (cases_lt e inputs)

  pub card_in : CardIn zero' inputs rows lens
  card_in =
      record {
        sized = sized;
        none = λ e high. ap (λ l. take l (drop (16 * e) rows)) (unused e high);
        lengths = lens_of_card zero' rows lens (omega arith) short zeros eight;
        front = rows_of_card zero' rows lens (omega arith) short zeros;
      }

-- the lists of a composite's card have 1 to 16 entries
pub sized_wires : {X : Type 0} (x : X) (inputs : ℕ) (rows : List X) (lens : List ℕ) → Finished x inputs rows lens → (e : ℕ) → e < inputs → Sized (list_at rows lens e)
sized_wires x inputs rows lens h e below =
    let long = length_list_at rows lens e h.lent in (omega (arith, long, h.some e below), omega (arith, long, h.lent.short e))

-- what holds over the numbers that were read off a sheet holds over those that it names
module _ {M : Type 0} (index : List Row) (cards : List (Entry M)) (names others : List ℕ) (are : names ≡ others) (P : (ℕ → Face) → (ℕ → ℕ → List (Entry M)) → Type 0) where
  pub over_names : P (faces_kept index names) (cards_kept index cards names) → P (faces_kept index others) (cards_kept index cards others)
  over_names h = subst (λ ns. P (faces_kept index ns) (cards_kept index cards ns)) are h

-- a card read off rows that begin with it, by its lengths
pub off_card : {M : Type 0} (z : Entry M) (card : ℕ → List (Entry M)) (inputs : ℕ) → inputs ≤ 8 → ((e : ℕ) → e < inputs → Sized (card e)) → ((e : ℕ) → inputs ≤ e → card e ≡ [])
    → (rows : List (Entry M)) (lens : List ℕ) → lens ≡ lens_of card → take 128 rows ≡ card_rows z card → list_at rows lens ≡ card
off_card z card inputs few sized none rows lens are front =
    let short : (e : ℕ) → length (card e) ≤ 16 = λ e. ⊎_elim (λ low. (sized e low).1) (λ high. omega (arith, ap length (none e high))) (cases_lt e inputs) in
    λ k e. (ap (λ l. list_at rows l e) are ∙ list_off z card rows front short (λ d high. none d (omega (arith, high, few))) e) k

-- the check of names does not turn down what names something
module _ (faces : ℕ → Face) (w : ℕ) (bs : List ℕ) where
  chart_not : NamedChart (sheet_of w bs) → (t : Told) → UnnamedChart w bs t → ⊥
  chart_not named t h = chart_passes h.sheet (subst₂ (λ x y. NamedChart (sheet_of x y)) (sym h.width) (sym h.bytes) named) h.refusal h.is

  misnamed_not : (k : Kind) (t : Told) → NamedBy faces (sheet_of w bs) k → MisnamedBy faces w bs k t → ⊥
  misnamed_not Basic t named h = chart_not named t h
  misnamed_not Service t named h = chart_not named t h
  misnamed_not Composite t named h = network_passes (network_of (sheet_of w bs) faces) (offsets_of Connection bs) named.0 named.1 h.refusal h.is

  pub names_pass : (t : Told) → NamedBy faces (sheet_of w bs) (sheet_of w bs).face.kind → MisnamedBy faces w bs (sheet_of w bs).face.kind t → ⊥
  names_pass t = misnamed_not (sheet_of w bs).face.kind t

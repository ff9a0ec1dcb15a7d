-- The three kinds of block are apart. Assumes nothing.
use Rattle.std.proofs.Common.{◌≡◌, ℕ, List, [], refl}
use Rattle.costs.specs.Amounts.{Amounts}
use Rattle.costs.specs.declared.entry.Entry.{Entry}
use Rattle.sheets.specs.Sheets.{Sheet}
use Rattle.sheets.specs.declared.words.Kind.{Kind}
use Rattle.sheets.specs.declared.words.Kind.TheVariants.{Basic, Service, Composite}
use Rattle.charts.specs.Forming.{Outcome}
use Rattle.charts.specs.Cards.{EventBy, Events}
use Rattle.charts.specs.Refusals.{CardBy}

-- what is neither basic nor composite is a service block
pub service : (kind : Kind) → (kind ≡ Basic → ⊥) → (kind ≡ Composite → ⊥) → kind ≡ Service
service Basic basic composite = absurd (basic refl)
service Service basic composite = refl
service Composite basic composite = absurd (composite refl)

pub service_card_by : {M : Type 0} (ops : Amounts M) (meant : List ℕ → M) (gives : List (Entry M) → List (Entry M) → Type 0) (sheet : Sheet) (T : ℕ → List (Entry M)) (kind : Kind) → (kind ≡ Basic → ⊥) → (kind ≡ Composite → ⊥)
    → (o : Outcome (Entry M)) → Events (EventBy ops meant gives sheet kind T) sheet.face.inputs 0 [] o → CardBy ops meant gives sheet kind o
service_card_by ops meant gives sheet T Basic basic composite o h = absurd (basic refl)
service_card_by ops meant gives sheet T Service basic composite o h = h
service_card_by ops meant gives sheet T Composite basic composite o h = absurd (composite refl)

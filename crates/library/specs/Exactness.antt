-- Where the reducer gives what a function says, as keep and merge do, the working comes to exactly what the plain function says. Assumes nothing.
use Rattle.std.specs.Prelude.{◌≡◌, ℕ, List}
use Rattle.costs.specs.Lists.{Computes}
use Rattle.costs.specs.declared.entry.Entry.{Entry}
use Rattle.charts.specs.Forming.{Outcome, made, stops}
use Rattle.charts.specs.Theorems.{ExactBy}
use Rattle.networks.specs.Evaluation.{made as network_made, stops as network_stops}
use Rattle.networks.specs.Networks.{network_of}
use Rattle.networks.specs.Promises.{lists_from, Evaluates}
use Rattle.networks.specs.declared.beneath.Face.{Face}
use Rattle.sheets.specs.Sheets.{Sheet}
use Rattle.sheets.specs.declared.words.Kind.{Kind}
use Rattle.sheets.specs.declared.words.Kind.TheVariants.{Basic, Service, Composite}
use Rattle.library.specs.Books.{Rules}
use Rattle.library.specs.Checks.{Blocks, Verdict, turned, fine, faces_beneath, cards_beneath}

-- what the plain function makes of a basic or a service sheet, whatever function the reducer's relation is
abbrev pub ExactChart : {M : Type 0} → Rules M → Sheet → Kind → Outcome (Entry M) → Type 0
ExactChart {M} rules s kind o = (f : List (Entry M) → List (Entry M)) → Computes rules.gives f → ExactBy rules.ops rules.meant rules.gives s kind f o

-- over these interfaces and cards beneath
module _ {M : Type 0} (rules : Rules M) (faces : ℕ → Face) (cards : ℕ → ℕ → List (Entry M)) (s : Sheet) where
  -- the card is the plain function's, by the kind of block
  abbrev pub ExactCard : Kind → (ℕ → List (Entry M)) → Type 0
  ExactCard Basic card = ExactChart rules s Basic (made (lists_from card s.face.inputs 0))
  ExactCard Service card = ExactChart rules s Service (made (lists_from card s.face.inputs 0))
  ExactCard Composite card = Evaluates rules.ops rules.gives (network_of s faces) cards (network_made (lists_from card s.face.inputs 0))

  -- a list above 16, and its place, are the plain function's
  abbrev pub ExactStop : Kind → ℕ → Type 0
  ExactStop Basic p = ExactChart rules s Basic (stops p)
  ExactStop Service p = ExactChart rules s Service (stops p)
  ExactStop Composite p = Evaluates rules.ops rules.gives (network_of s faces) cards (network_stops p)

-- the working of a sheet over these blocks came to exactly what the plain function says: the card, or refusal 10 and its place
abbrev pub Exactly : {M : Type 0} → Rules M → Blocks M → Sheet → Verdict (ℕ → List (Entry M)) → Type 0
Exactly rules v s (fine card) = ExactCard rules (faces_beneath v s) (cards_beneath v s) s s.face.kind card
Exactly rules v s (turned t) = t.number ≡ 10 → ExactStop rules (faces_beneath v s) (cards_beneath v s) s s.face.kind t.place

-- What is given of a composite block has one proof at most, so that a type can carry it. Assumes nothing.
use Rattle.std.specs.Prelude.{ℕ, List, [], ◌∷◌}
use Rattle.std.specs.Coded.{×_prop, Unit-prop, le_prop}
use Rattle.std.specs.List.{AllByRecursion}
use Rattle.costs.specs.declared.entry.Entry.{Entry}
use Rattle.sheets.specs.declared.words.Connection.{Connection}
use Rattle.sheets.specs.declared.words.End.{End}
use Rattle.sheets.specs.declared.words.End.TheVariants.{Outside, Inside}
use Rattle.networks.specs.Networks.{Network, Source, Target, NamedConnection, Fit, Given}

source_one : (net : Network) (s : End) → IsProp (Source net s)
source_one net (Outside e) = le_prop
source_one net (Inside i o) = ×_prop le_prop le_prop

target_one : (net : Network) (t : End) → IsProp (Target net t)
target_one net (Outside p) = le_prop
target_one net (Inside i f) = ×_prop le_prop le_prop

connection_one : (net : Network) (c : Connection) → IsProp (NamedConnection net c)
connection_one net c x y = λ i. record { source = source_one net c.source x.source y.source i; target = target_one net c.target x.target y.target i }

all_one : {X : Type 0} (P : X → Type 0) → ((x : X) → IsProp (P x)) → (xs : List X) → IsProp (AllByRecursion P xs)
all_one P one [] = Unit-prop
all_one P one (x ∷ xs) = ×_prop (one x) (all_one P one xs)

fit_one : {M : Type 0} (net : Network) (card : ℕ → ℕ → List (Entry M)) → IsProp (Fit net card)
fit_one net card x y = λ i. record {
  narrow = λ j h. le_prop (x.narrow j h) (y.narrow j h) i;
  sized = λ j f h. ×_prop le_prop le_prop (x.sized j f h) (y.sized j f h) i;
}

-- of two proofs of what is given the one is the other
pub given_one : {M : Type 0} (net : Network) (card : ℕ → ℕ → List (Entry M)) → IsProp (Given net card)
given_one net card x y = λ i. record {
  named = all_one (NamedConnection net) (connection_one net) net.connections x.named y.named i;
  fit = fit_one net card x.fit y.fit i;
  instances = le_prop x.instances y.instances i;
  inputs = le_prop x.inputs y.inputs i;
  outputs = le_prop x.outputs y.outputs i;
}

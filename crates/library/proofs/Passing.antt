-- A refusal that `?` passes on, and what is said of the tables to read, said of the library. Assumes nothing.
use Rattle.std.proofs.Common.{◌≡◌, ℕ, List, Ok, Err, Result, refl, ap, ◌∙◌, subst}
use Rattle.std.specs.Result.{IsErr, IsErrAnd}
use Rattle.costs.specs.declared.entry.Entry.{Entry}
use Rattle.library.specs.Lent.{SameTables}
use Rattle.library.specs.declared.Library.{Library}
use Rattle.library.specs.declared.row.Row.{Row}

-- what `?` returns
pub passed_is : {X E : Type 0} (r : Result X E) (x : E) → IsErr r × IsErrAnd r (λ y. y ≡ x) → r ≡ Err x
passed_is (Ok y) x h = absurd h.1
passed_is (Err y) x h = ap (λ z. Err z) h.1

-- the same tables
pub over : {M : Type 0} (P : List ℕ → List Row → List (Entry M) → Type 0) {s s' : List ℕ} {i i' : List Row} {c c' : List (Entry M)} → s ≡ s' → i ≡ i' → c ≡ c' → P s i c → P s' i' c'
over P {s} {s'} {i} {i'} {c} {c'} e f g h = subst (λ x. P s' i' x) g (subst (λ x. P s' x c) f (subst (λ x. P x i c) e h))

-- nothing is written
pub same_tables : {M : Type 0} (l : Library M) → SameTables l l
same_tables l = record { shelf = refl; index = refl; cards = refl; shelf_length = refl; index_length = refl; cards_length = refl }

pub tables_then : {M : Type 0} {a b c : Library M} → SameTables a b → SameTables b c → SameTables a c
tables_then p q = record {
  shelf = q.shelf ∙ p.shelf;
  index = q.index ∙ p.index;
  cards = q.cards ∙ p.cards;
  shelf_length = q.shelf_length ∙ p.shelf_length;
  index_length = q.index_length ∙ p.index_length;
  cards_length = q.cards_length ∙ p.cards_length;
}

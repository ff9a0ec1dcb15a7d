-- The lines of answers, when none is left. Assumes nothing.
use Rattle.std.proofs.Common.{◌≡◌, ℕ, ◌≤◌, min, List, [], ◌∷◌, ◌++◌, length, drop, sym, refl, ap, ◌∙◌, ⊎_elim, arith}
use Rattle.std.proofs.lemmas.List.{append-nil, drop_all}
use Rattle.std.proofs.lemmas.Bool.{cases_lt}
use Rattle.costs.specs.declared.entry.Entry.{Entry}
use Rattle.library.specs.Calls.{Answer}
use Rattle.library.specs.declared.calls.Call.{Call}
use Rattle.library.specs.declared.row.Row.{Row}
use Rattle.listing.specs.Answers.{answers_lines}

no_answers : {M : Type 0} (spelt : M → List ℕ) (wide : ℕ) → (index : List Row) (calls : List Call) (rest : List (Entry M)) → answers_lines spelt wide index calls [] rest ≡ []
no_answers spelt wide index [] rest = refl
no_answers spelt wide index (c ∷ calls) rest = refl

pub answers_all : {M : Type 0} (spelt : M → List ℕ) (wide : ℕ) → (index : List Row) (calls : List Call) (answers : List Answer) (rest : List (Entry M)) (t all : List ℕ) (i : ℕ) → min (length calls) (length answers) ≤ i
    → t ++ answers_lines spelt wide index (drop i calls) (drop i answers) rest ≡ all → t ≡ all
answers_all spelt wide index calls answers rest t all i le so_far =
    sym (append-nil t) ∙ ap (λ l. t ++ l) (sym none) ∙ so_far
  where
    none : answers_lines spelt wide index (drop i calls) (drop i answers) rest ≡ []
    none = ⊎_elim (λ lt. ap (λ l. answers_lines spelt wide index (drop i calls) l rest) (drop_all i answers (omega arith)) ∙ no_answers spelt wide index (drop i calls) rest)
        (λ lc. ap (λ l. answers_lines spelt wide index l (drop i answers) rest) (drop_all i calls lc)) (cases_lt i (length calls))

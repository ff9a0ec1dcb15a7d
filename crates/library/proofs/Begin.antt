-- The tables that `new` leaves stand for the empty book. Assumes nothing.
use Rattle.std.proofs.Common.{◌≡◌, ℕ, ◌≤◌, List, replicate, sym, ap, ◌∙◌, subst, ⊎_elim, arith}
use Rattle.std.proofs.lemmas.List.{get_or-replicate, get_or_past, length-replicate}
use Rattle.std.proofs.lemmas.Bool.{cases_lt}
use Rattle.costs.specs.declared.entry.Entry.{Entry}
use Rattle.library.specs.Books.{Rules, empty}
use Rattle.library.specs.Memory.{Stands}
use Rattle.library.specs.Tables.{no_row, row_at}
use Rattle.library.specs.declared.row.Row.{Row}

blank : (k n : ℕ) → row_at (replicate k no_row) n ≡ no_row
blank k n = ⊎_elim (λ l. get_or-replicate k n no_row no_row l) (λ l. get_or_past (replicate k no_row) n no_row (subst (λ z. z ≤ n) (sym (length-replicate k no_row)) l)) (cases_lt n k)

pub new_stands : {M : Type 0} (rules : Rules M) (shelf : List ℕ) (index : List Row) (cards : List (Entry M)) (k : ℕ) → index ≡ replicate k no_row → Stands rules empty shelf index cards
new_stands rules shelf index cards k is = record {
  book = record {
    few = omega arith;
    blocks = λ n lt. absurd (omega (arith, lt));
    times = record {
      worked = λ n. omega arith;
      retimed = λ n. omega arith;
      upward = λ n k lt. absurd (omega (arith, lt));
    };
  };
  shelf_has = record {
    room = omega arith;
    framed = λ n lt. absurd (omega (arith, lt));
    right = λ n lt. absurd (omega (arith, lt));
    says = λ n lt. absurd (omega (arith, lt));
  };
  index_has = record {
    room = omega arith;
    rows = λ n lt. absurd (omega (arith, lt));
    unused = λ n high. ap (λ x. row_at x n) is ∙ blank k n;
    marked = λ n lt. absurd (omega (arith, lt));
    stale = λ n lt. absurd (omega (arith, lt));
  };
  cards_have = record {
    room = omega arith;
    rows = λ n lt. absurd (omega (arith, lt));
  };
}

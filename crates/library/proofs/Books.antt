-- What holds of books, and what is the same in two books. Assumes nothing.
use Rattle.std.proofs.Common.{◌≡◌, ℕ, zero, suc, ◌+◌, ◌<◌, ◌≤◌, List, [], ◌∷◌, ◌++◌, length, get_or, take, set, sym, refl, ap, ◌∙◌, subst, subst₂, inl, inr, ⊎_elim, arith}
use Rattle.std.proofs.lemmas.List.{length-append, length-set, get_or_append_left, get_or_push, get_or_past, get_or-set_same, get_or-set_other, take_all, take-append-le}
use Rattle.std.proofs.lemmas.Bool.{cases_eq, cases_lt}
use Rattle.costs.specs.Lists.{Among}
use Rattle.costs.specs.declared.entry.Entry.{Entry}
use Rattle.sheets.specs.Sheets.{Sheet}
use Rattle.library.specs.Books.{Rules, Block, Book, no_block, size, at, bytes_of, used, start_of, StandsOn, Within, itself, deeper}
use Rattle.library.specs.Checks.{Blocks, faces_beneath, cards_beneath, NamedBy, Named, CardOver, CardOf}

-- an element of a list, and its place
pub among_at : (xs : List ℕ) (i d : ℕ) → i < length xs → Among (get_or xs i d) xs
among_at [] i d lt = absurd (omega arith)
among_at (x ∷ xs) zero d lt = inl refl
among_at (x ∷ xs) (suc i) d lt = inr (among_at xs i d (omega arith))

pub among_place : (k : ℕ) (xs : List ℕ) (d : ℕ) → Among k xs → (i : ℕ) × ((i < length xs) × (get_or xs i d ≡ k))
among_place k [] d h = absurd h
among_place k (x ∷ xs) d (inl e) = (0, (omega arith, e))
among_place k (x ∷ xs) d (inr h) = let r = among_place k xs d h in (suc r.0, (omega (arith, r.1.0), r.1.1))

pub among_by : (k : ℕ) (xs : List ℕ) (i d : ℕ) → (d ≡ k → ⊥) → get_or xs i d ≡ k → Among k xs
among_by k [] i d ne is = absurd (ne is)
among_by k (x ∷ xs) zero d ne is = inl is
among_by k (x ∷ xs) (suc i) d ne is = inr (among_by k xs i d ne is)

-- a way beneath depends on what the sheets name alone
pub within_by : {M : Type 0} (b d : Book M) → ((n k : ℕ) → StandsOn b n k → StandsOn d n k) → {m n : ℕ} → Within b m n → Within d m n
within_by b d f itself = itself
within_by b d f (deeper {n = n} k on w) = deeper k (f n k on) (within_by b d f w)

-- the sheets stand end to end
module _ {M : Type 0} where
  bytes_taken : (xs : List (Block M)) (m n : ℕ) → m < n → m < length xs → bytes_of (take m xs) + (get_or xs m no_block).bytes ≤ bytes_of (take n xs)
  bytes_taken [] m n lt within = absurd (omega arith)
  bytes_taken (x ∷ xs) zero zero lt within = absurd (omega arith)
  bytes_taken (x ∷ xs) zero (suc n) lt within = omega arith
  bytes_taken (x ∷ xs) (suc m) zero lt within = absurd (omega arith)
  bytes_taken (x ∷ xs) (suc m) (suc n) lt within = omega (arith, bytes_taken xs m n (omega arith) (omega arith))

  -- block m's sheet ends where that of a later block begins, or before
  pub end_before : (b : Book M) (m n : ℕ) → m < n → m < size b → start_of b m + (at b m).bytes ≤ start_of b n
  end_before b m n lt within = bytes_taken b.blocks m n lt within

  pub start_all : (b : Book M) → start_of b (size b) ≡ used b
  start_all b = ap bytes_of (take_all (size b) b.blocks (omega arith))

  pub end_within : (b : Book M) (m : ℕ) → m < size b → start_of b m + (at b m).bytes ≤ used b
  end_within b m within = omega (arith, end_before b m (size b) within within, start_all b)

  bytes_next : (xs : List (Block M)) (n : ℕ) → n < length xs → bytes_of (take (suc n) xs) ≡ bytes_of (take n xs) + (get_or xs n no_block).bytes
  bytes_next [] n lt = absurd (omega arith)
  bytes_next (x ∷ xs) zero lt = omega arith
  bytes_next (x ∷ xs) (suc n) lt = omega (arith, bytes_next xs n (omega arith))

  pub start_next : (b : Book M) (n : ℕ) → n < size b → start_of b (suc n) ≡ start_of b n + (at b n).bytes
  start_next b n lt = bytes_next b.blocks n lt

  bytes_set : (xs : List (Block M)) (n m : ℕ) (x : Block M) → (n < length xs → x.bytes ≡ (get_or xs n no_block).bytes) → bytes_of (take m (set xs n x)) ≡ bytes_of (take m xs)
  bytes_set [] n m x h = refl
  bytes_set (y ∷ ys) n zero x h = refl
  bytes_set (y ∷ ys) zero (suc m) x h = ap (λ k. k + bytes_of (take m ys)) (h (omega arith))
  bytes_set (y ∷ ys) (suc n) (suc m) x h = ap (λ k. y.bytes + k) (bytes_set ys n m x (λ lt. h (omega arith)))

-- a book with another block n
module _ {M : Type 0} (b : Book M) (n : ℕ) (x : Block M) (lt : n < size b) where
  abbrev pub changed : Book M
  changed = record { blocks = set b.blocks n x; clock = b.clock + 1 }

  pub size_changed : size changed ≡ size b
  size_changed = length-set b.blocks n x

  pub at_changed : at changed n ≡ x
  at_changed = get_or-set_same b.blocks n x no_block lt

  pub at_other : (m : ℕ) → (m ≡ n → ⊥) → at changed m ≡ at b m
  at_other m ne = get_or-set_other b.blocks n m x no_block ne

  -- what x has as block n had it is as it was in every block
  pub kept : {Y : Type 0} (f : Block M → Y) → f x ≡ f (at b n) → (m : ℕ) → f (at changed m) ≡ f (at b m)
  kept f same m = ⊎_elim (λ e. ap (λ k. f (at changed k)) e ∙ (ap f at_changed ∙ same) ∙ ap (λ k. f (at b k)) (sym e)) (λ ne. ap f (at_other m ne)) (cases_eq m n)

  module _ (same : x.bytes ≡ (at b n).bytes) where
    pub start_changed : (m : ℕ) → start_of changed m ≡ start_of b m
    start_changed m = bytes_set b.blocks n m x (λ _. same)

    pub used_changed : used changed ≡ used b
    used_changed = sym (start_all changed) ∙ ap (start_of changed) size_changed ∙ start_changed (size b) ∙ start_all b

-- a book with one block more
module _ {M : Type 0} (b : Book M) (x : Block M) where
  abbrev pub added : Book M
  added = record { blocks = b.blocks ++ (x ∷ []); clock = b.clock + 1 }

  pub size_added : size added ≡ size b + 1
  size_added = length-append b.blocks (x ∷ [])

  pub at_added : at added (size b) ≡ x
  at_added = get_or_push b.blocks x no_block (size b) refl

  -- every other number is what it was
  pub at_else : (m : ℕ) → (m ≡ size b → ⊥) → at added m ≡ at b m
  at_else m ne =
      ⊎_elim (λ l. get_or_append_left b.blocks (x ∷ []) no_block m l)
      (λ high. get_or_past added.blocks m no_block (⊎_elim (λ e. absurd (ne e)) (λ h. omega (arith, h, high, size_added)) (cases_eq m (size b))) ∙ sym (get_or_past b.blocks m no_block high))
      (cases_lt m (size b))

  pub start_added : (m : ℕ) → m ≤ size b → start_of added m ≡ start_of b m
  start_added m le = ap bytes_of (take-append-le m b.blocks (x ∷ []) le)

  pub start_last : start_of added (size b) ≡ used b
  start_last = start_added (size b) (omega arith) ∙ start_all b

  pub used_added : used added ≡ used b + x.bytes
  used_added = bytes_push b.blocks
    where
      bytes_push : (xs : List (Block M)) → bytes_of (xs ++ (x ∷ [])) ≡ bytes_of xs + x.bytes
      bytes_push [] = omega arith
      bytes_push (y ∷ ys) = omega (arith, bytes_push ys)

-- what a sheet names, and how its card is formed, depend on the interfaces and cards beneath alone
module _ {M : Type 0} (v u : Blocks M) (s : Sheet) (faces : faces_beneath u s ≡ faces_beneath v s) where
  pub named_as : Named v s → Named u s
  named_as h = subst (λ f. NamedBy f s s.face.kind) (sym faces) h

  pub card_as : (rules : Rules M) (card : ℕ → List (Entry M)) → cards_beneath u s ≡ cards_beneath v s → CardOf rules v s card → CardOf rules u s card
  card_as rules card cards h = subst₂ (λ f c. CardOver rules f c s card) (sym faces) (sym cards) h

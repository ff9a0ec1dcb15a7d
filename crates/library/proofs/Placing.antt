-- What the checks found over the blocks that the tables hold is so of the book's blocks. Assumes nothing.
use Rattle.std.proofs.Common.{◌≡◌, ℕ, zero, suc, ◌+◌, ◌<◌, ◌≤◌, true, List, sym, refl, ap, ◌∙◌, subst, subst₂, inl, inr, ⊎_elim, arith}
use Rattle.std.proofs.lemmas.Bool.{cases_lt, false≢true}
use Rattle.costs.specs.Lists.{Among}
use Rattle.costs.specs.declared.entry.Entry.{Entry}
use Rattle.sheets.specs.Sheets.{Sheet, sheet_of}
use Rattle.library.specs.Books.{Rules, Block, Book, size, at, used, start_of, instance_of, Within, itself, deeper, Stale}
use Rattle.library.specs.Checks.{Blocks, blocks_of, Lent, Verdict, turned, fine, Then, First, Never, FirstAt, Missing, Behind, MisnamedBy, NamedBy, Named, StopsBy, CardOver, CardOf, Working}
use Rattle.library.specs.Marks.{kept_end}
use Rattle.library.specs.Memory.{Stands}
use Rattle.library.specs.Refusals.{Told}
use Rattle.library.specs.Steps.{Placing, Renewing}
use Rattle.library.specs.Tables.{row_at, blocks_kept}
use Rattle.library.specs.declared.row.Row.{Row}
use Rattle.library.proofs.Books.{start_all, start_next}
use Rattle.library.proofs.Reading.{at_past, row_is, faces_are, cards_are}

-- the same number is the first of which P and Q hold, where they hold of the same numbers
module _ (P Q : ℕ → Type 0) (to : (j : ℕ) → P j → Q j) (back : (j : ℕ) → Q j → P j) where
  pub first_as : (k : ℕ) → First P k → First Q k
  first_as k h = record { holds = to k h.holds; before = λ j lt q. h.before j lt (back j q) }

  pub never_as : Never P → Never Q
  never_as h j q = h j (back j q)

  pub first_at_as : (n : ℕ) (t : Told) → FirstAt n P t → FirstAt n Q t
  first_at_as n t h = record { place = h.place; first = first_as h.place h.first; is = h.is }

-- a check and the rest, each as another says it
pub then_as : {X : Type 0} {F G : Told → Type 0} {P Q : Type 0} {R S : Verdict X → Type 0} → ((t : Told) → F t → G t) → (P → Q) → ((v : Verdict X) → R v → S v) → (v : Verdict X) → Then F P R v → Then G Q S v
then_as f p r (turned t) (inl h) = inl (f t h)
then_as f p r (turned t) (inr h) = inr (p h.0, r (turned t) h.1)
then_as f p r (fine x) h = (p h.0, r (fine x) h.1)

module _ {M : Type 0} {rules : Rules M} {b : Book M} {shelf : List ℕ} {index : List Row} {cards : List (Entry M)} (st : Stands rules b shelf index cards) where
  abbrev v : Blocks M
  v = blocks_kept (size b) index cards

  -- a mark is the book's word on every number
  pub mark_stale : (n : ℕ) → (row_at index n).old ≡ true → Stale b n
  mark_stale n o =
      ⊎_elim (λ lt. st.index_has.marked n lt o) (λ high. absurd (false≢true (sym (ap (λ (r : Row). r.old) (st.index_has.unused n high)) ∙ o))) (cases_lt n (size b))

  -- what is no block is not out of date
  stale_low : (n : ℕ) → Stale b n → n < size b
  stale_low n s = ⊎_elim (λ lt. lt) (λ high. absurd (nothing high s.within s.later)) (cases_lt n (size b))
    where
      nothing : {m n : ℕ} → size b ≤ n → Within b m n → (at b n).worked < (at b m).retimed → ⊥
      nothing {n = n} high itself later = omega (arith, later, ap (λ (x : Block M). x.retimed) (at_past b n high))
      nothing {n = n} high (deeper k on w) later = absurd (subst (λ (x : Block M). Among k x.sheet.instances) (at_past b n high) on)

  pub stale_mark : (n : ℕ) → Stale b n → (row_at index n).old ≡ true
  stale_mark n s = st.index_has.stale n (stale_low n s) s

  module _ (s : Sheet) where
    missing_to : (i : ℕ) → Missing v s i → Missing (blocks_of b) s i
    missing_to i h = record { instance = h.instance; no_block = h.no_block }

    missing_back : (i : ℕ) → Missing (blocks_of b) s i → Missing v s i
    missing_back i h = record { instance = h.instance; no_block = h.no_block }

    behind_to : (i : ℕ) → Behind v s i → Behind (blocks_of b) s i
    behind_to i h = record { instance = h.instance; stale = mark_stale (instance_of s i) h.stale }

    behind_back : (i : ℕ) → Behind (blocks_of b) s i → Behind v s i
    behind_back i h = record { instance = h.instance; stale = stale_mark (instance_of s i) h.stale }

    pub named_to : Named v s → Named (blocks_of b) s
    named_to h = subst (λ f. NamedBy f s s.face.kind) (faces_are st s) h

    pub named_back : Named (blocks_of b) s → Named v s
    named_back h = subst (λ f. NamedBy f s s.face.kind) (sym (faces_are st s)) h

    pub card_to : (card : ℕ → List (Entry M)) → CardOf rules v s card → CardOf rules (blocks_of b) s card
    card_to card h = subst₂ (λ f c. CardOver rules f c s card) (faces_are st s) (cards_are st s) h

    working_to : (w : Verdict (ℕ → List (Entry M))) → Working rules v s w → Working rules (blocks_of b) s w
    working_to (turned t) h = subst₂ (λ f c. StopsBy rules f c s s.face.kind t) (faces_are st s) (cards_are st s) h
    working_to (fine card) h = card_to card h

  pub placing_to : (bs : List ℕ) (Lacks : ℕ → Type 0) (w : Verdict (ℕ → List (Entry M))) → Placing rules v bs Lacks w → Placing rules (blocks_of b) bs Lacks w
  placing_to bs Lacks =
      let s = sheet_of rules.wide bs in
      then_as (first_at_as (Missing v s) (Missing (blocks_of b) s) (missing_to s) (missing_back s) 3) (never_as (Missing v s) (Missing (blocks_of b) s) (missing_to s) (missing_back s))
      (then_as (first_at_as (Behind v s) (Behind (blocks_of b) s) (behind_to s) (behind_back s) 4) (never_as (Behind v s) (Behind (blocks_of b) s) (behind_to s) (behind_back s))
      (then_as (λ t h. subst (λ f. MisnamedBy f rules.wide bs s.face.kind t) (faces_are st s) h) (named_to s)
      (then_as (λ t h. h) (λ h. h) (working_to s))))

  pub renewing_to : (s : Sheet) (lent : Lent) (w : Verdict (ℕ → List (Entry M))) → Renewing rules v s lent w → Renewing rules (blocks_of b) s lent w
  renewing_to s lent =
      then_as (first_at_as (Behind v s) (Behind (blocks_of b) s) (behind_to s) (behind_back s) 4) (never_as (Behind v s) (Behind (blocks_of b) s) (behind_to s) (behind_back s))
      (then_as (λ t h. h) (λ h. h) (working_to s))

  -- the sheets end where the last row says
  pub end_is : kept_end index (size b) ≡ used b
  end_is = ends (size b) refl
    where
      ends : (n : ℕ) → n ≡ size b → kept_end index n ≡ used b
      ends zero e = ap (start_of b) e ∙ start_all b
      ends (suc n) e =
          let lt : n < size b = omega (arith, e) in
          ap (λ (r : Row). r.start + r.len) (row_is st n lt) ∙ sym (start_next b n lt) ∙ ap (start_of b) e ∙ start_all b

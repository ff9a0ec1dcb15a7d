-- What each call answers, for a book and the room that it has, and the book after it; and histories of calls. Assumes nothing.
use Rattle.std.specs.Prelude.{◌≡◌, ℕ, ◌+◌, ◌*◌, ◌<◌, ◌≤◌, List, [], ◌∷◌, ◌++◌, length, ◌≢◌}
use Rattle.costs.specs.declared.entry.Entry.{Entry}
use Rattle.sheets.specs.Refusals.{framing_of, check_of}
use Rattle.sheets.specs.Sheets.{Sheet, sheet_of}
use Rattle.library.specs.Books.{Rules, Book, size, at, inputs_of, used, empty, with_block, with_retime, with_work, Stale, Current}
use Rattle.library.specs.Checks.{Sizes, Lent, Blocks, blocks_of, Verdict, turned, fine, Then, Never, FirstAt, Plainly, Bad, Framed, Right, Missing, Behind, Misnamed, Named, Working}
use Rattle.library.specs.Refusals.{Told, by_library}

-- the number of a lent table that is too short for one block more with a sheet of so many bytes, after `count` blocks whose sheets take `bytes`:
-- 1 shelf, 2 index (or 64 blocks), 3 cards, 4 working rows
pub data EnterLacks (sizes : Sizes) (lent : Lent) (bytes count more : ℕ) : ℕ → Type 0 where
  shelf : sizes.shelf < bytes + more → EnterLacks sizes lent bytes count more 1
  index : sizes.index ≤ count → EnterLacks sizes lent bytes count more 2
  blocks : 64 ≤ count → EnterLacks sizes lent bytes count more 2
  cards : sizes.cards < 128 * count + 128 → EnterLacks sizes lent bytes count more 3
  rows : lent.rows < 3072 → EnterLacks sizes lent bytes count more 4

-- for a preview: 4 working rows, 5 caller's rows
pub data PreviewLacks (lent : Lent) : ℕ → Type 0 where
  rows : lent.rows < 3072 → PreviewLacks lent 4
  out : lent.out < 128 → PreviewLacks lent 5

-- checks 3 to 10 of a new sheet with these bytes over these blocks, and its card; `Lacks` says which lent table is too short
abbrev pub Placing : {M : Type 0} → Rules M → Blocks M → List ℕ → (ℕ → Type 0) → Verdict (ℕ → List (Entry M)) → Type 0
Placing rules v bs Lacks =
    Then (FirstAt 3 (Missing v (sheet_of rules.wide bs))) (Never (Missing v (sheet_of rules.wide bs)))
    (Then (FirstAt 4 (Behind v (sheet_of rules.wide bs))) (Never (Behind v (sheet_of rules.wide bs)))
    (Then (Misnamed v rules.wide bs) (Named v (sheet_of rules.wide bs))
    (Then (FirstAt 7 Lacks) (Never Lacks)
    (Working rules v (sheet_of rules.wide bs)))))

-- the working again of a kept sheet over these blocks: what it stands on is current, there are working rows, and it can be worked
abbrev pub Renewing : {M : Type 0} → Rules M → Blocks M → Sheet → Lent → Verdict (ℕ → List (Entry M)) → Type 0
Renewing rules v s lent =
    Then (FirstAt 4 (Behind v s)) (Never (Behind v s))
    (Then (Plainly 7 4 (lent.rows < 3072)) (3072 ≤ lent.rows)
    (Working rules v s))

-- nothing more is asked: this is answered
abbrev pub Answering : {X : Type 0} → X → Verdict X → Type 0
Answering x (turned t) = ⊥
Answering x (fine y) = y ≡ x

module _ {M : Type 0} (rules : Rules M) (b : Book M) where
  -- enter: checks 1 and 2 of the bytes, then those of the sheet
  abbrev pub Entering : Sizes → Lent → List ℕ → Verdict (ℕ → List (Entry M)) → Type 0
  Entering sizes lent bs =
      Then (Bad (framing_of bs)) (Framed bs)
      (Then (Bad (check_of rules.wide bs)) (Right rules.wide bs)
      (Placing rules (blocks_of b) bs (EnterLacks sizes lent (used b) (size b) (length bs))))

  -- preview of bytes that are opened and checked at the width w: then the width must be the library's
  abbrev pub Previewing : Lent → ℕ → List ℕ → Verdict (ℕ → List (Entry M)) → Type 0
  Previewing lent w bs =
      Then (Bad (framing_of bs)) (Framed bs)
      (Then (Bad (check_of w bs)) (Right w bs)
      (Then (Plainly 2 w (w ≢ rules.wide)) (w ≡ rules.wide)
      (Placing rules (blocks_of b) bs (PreviewLacks lent))))

  -- retime: an amount of the library's width, a block of the book, an algorithm of the block
  abbrev pub Retiming : ℕ → ℕ → List ℕ → Verdict (Unit {0}) → Type 0
  Retiming n k new =
      Then (Plainly 2 (length new) (length new ≢ rules.wide)) (length new ≡ rules.wide)
      (Then (Plainly 3 n (size b ≤ n)) (n < size b)
      (Then (Plainly 5 k (length (at b n).sheet.amounts ≤ k)) (k < length (at b n).sheet.amounts)
      (Answering tt)))

  -- rework of a block of the book whose card is out of date, from its kept sheet
  abbrev pub Reworking : Lent → ℕ → Verdict (ℕ → List (Entry M)) → Type 0
  Reworking lent n = Renewing rules (blocks_of b) (at b n).sheet lent

  -- card: a block of the book, current, an event of the block, and room for 16 rows
  abbrev pub Showing : Lent → ℕ → ℕ → Verdict (List (Entry M)) → Type 0
  Showing lent n e =
      Then (Plainly 3 n (size b ≤ n)) (n < size b)
      (Then (Plainly 4 n (Stale b n)) (Stale b n → ⊥)
      (Then (Plainly 5 e (inputs_of b n ≤ e)) (e < inputs_of b n)
      (Then (Plainly 7 5 (lent.out < 16)) (16 ≤ lent.out)
      (Answering ((at b n).card e)))))

-- what is asked; numbers of blocks, algorithms and events, bytes of sheets and amounts, a width in bytes
pub data Ask : Type 0 where
  enter : List ℕ → Ask
  preview : ℕ → List ℕ → Ask
  retime : ℕ → ℕ → List ℕ → Ask
  rework : ℕ → Ask
  card : ℕ → ℕ → Ask

-- what is answered, whole: the number of the new block, a list for each event, that it is done, a list, or a refusal
pub data Reply (M : Type 0) : Type 0 where
  entered : ℕ → Reply M
  previewed : (ℕ → List (Entry M)) → Reply M
  done : Reply M
  shown : List (Entry M) → Reply M
  refused : Told → Reply M

module _ {M : Type 0} (rules : Rules M) (sizes : Sizes) where
  -- one call, lent so much, what it answers, and the book after it. A refused call, a preview and a look at a card change nothing.
  pub data Step (b : Book M) : Ask → Lent → Reply M → Book M → Type 0 where
    no_entry : (bs : List ℕ) (lent : Lent) (t : Told) → Entering rules b sizes lent bs (turned t) → Step b (enter bs) lent (refused t) b
    enters : (bs : List ℕ) (lent : Lent) (card : ℕ → List (Entry M)) → Entering rules b sizes lent bs (fine card)
        → Step b (enter bs) lent (entered (size b)) (with_block b (sheet_of rules.wide bs) (length bs) card)
    no_preview : (w : ℕ) (bs : List ℕ) (lent : Lent) (t : Told) → Previewing rules b lent w bs (turned t) → Step b (preview w bs) lent (refused t) b
    previews : (w : ℕ) (bs : List ℕ) (lent : Lent) (card : ℕ → List (Entry M)) → Previewing rules b lent w bs (fine card) → Step b (preview w bs) lent (previewed card) b
    no_retime : (n k : ℕ) (new : List ℕ) (lent : Lent) (t : Told) → Retiming rules b n k new (turned t) → Step b (retime n k new) lent (refused t) b
    retimes : (n k : ℕ) (new : List ℕ) (lent : Lent) → Retiming rules b n k new (fine tt) → Step b (retime n k new) lent done (with_retime b n k new)
    no_block : (n : ℕ) (lent : Lent) → size b ≤ n → Step b (rework n) lent (refused (by_library 3 n)) b
    stays : (n : ℕ) (lent : Lent) → Current b n → Step b (rework n) lent done b
    no_rework : (n : ℕ) (lent : Lent) (t : Told) → n < size b → Stale b n → Reworking rules b lent n (turned t) → Step b (rework n) lent (refused t) b
    reworks : (n : ℕ) (lent : Lent) (card : ℕ → List (Entry M)) → n < size b → Stale b n → Reworking rules b lent n (fine card) → Step b (rework n) lent done (with_work b n card)
    no_card : (n e : ℕ) (lent : Lent) (t : Told) → Showing rules b lent n e (turned t) → Step b (card n e) lent (refused t) b
    shows : (n e : ℕ) (lent : Lent) (es : List (Entry M)) → Showing rules b lent n e (fine es) → Step b (card n e) lent (shown es) b

-- a call of a history: what was asked, and how many rows it was lent
pub record Asked : Type 0 where
  pub ask : Ask
  pub lent : Lent

-- the book after these calls with these answers, the oldest first, from `new` on
pub data History {M : Type 0} (rules : Rules M) (sizes : Sizes) : List Asked → List (Reply M) → Book M → Type 0 where
  begun : History rules sizes [] [] empty
  later : {calls : List Asked} {replies : List (Reply M)} {b d : Book M} (call : Asked) (reply : Reply M) → History rules sizes calls replies b
      → Step rules sizes b call.ask call.lent reply d → History rules sizes (calls ++ (call ∷ [])) (replies ++ (reply ∷ [])) d

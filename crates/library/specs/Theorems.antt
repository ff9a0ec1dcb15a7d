-- What the rules fix where the reducer computes a function, as keep and merge do. Assumes nothing.
use Rattle.std.specs.Prelude.{◌≡◌, ℕ, List}
use Rattle.costs.specs.Lists.{Computes}
use Rattle.costs.specs.declared.entry.Entry.{Entry}
use Rattle.library.specs.Books.{Rules, Book, at, Current}
use Rattle.library.specs.Checks.{Sizes, Lent, blocks_of, fine}
use Rattle.library.specs.Exactness.{Exactly}
use Rattle.library.specs.Memory.{BookFacts}
use Rattle.library.specs.Steps.{Ask, Reply, Step}

-- the step of a call fixes what is answered and the book after it, where the reducer computes a function, as keep and merge do
abbrev pub OneAnswer : {M : Type 0} → Rules M → Type 0
OneAnswer {M} rules =
    (f : List (Entry M) → List (Entry M)) → Computes rules.gives f → (b : Book M) → BookFacts rules b → (sizes : Sizes) (ask : Ask) (lent : Lent) (r q : Reply M) (d e : Book M)
    → Step rules sizes b ask lent r d → Step rules sizes b ask lent q e → (r ≡ q) × (d ≡ e)

-- a call on this book has one answer, and one book after it, where the reducer computes a function
abbrev pub OneAnswerOn : {M : Type 0} → Rules M → Book M → Type 0
OneAnswerOn {M} rules b =
    (f : List (Entry M) → List (Entry M)) → Computes rules.gives f → (sizes : Sizes) (ask : Ask) (lent : Lent) (r q : Reply M) (d e : Book M)
    → Step rules sizes b ask lent r d → Step rules sizes b ask lent q e → (r ≡ q) × (d ≡ e)

-- nothing is left open of this book: a next call has one answer, and each current card is exactly what the plain function makes of its sheet and the cards beneath
pub record Fixed {M : Type 0} (rules : Rules M) (b : Book M) : Type 0 where
  pub one_answer : OneAnswerOn rules b
  pub exact : (n : ℕ) → Current b n → Exactly rules (blocks_of b) (at b n).sheet (fine (at b n).card)

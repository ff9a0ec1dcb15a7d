-- What is printed of a file: the calls it makes, a book with their history, the tables that keep the law for it, and the text. Assumes nothing.
use Rattle.std.specs.Prelude.{◌≡◌, ℕ, ◌-◌, ◌^◌, min, List, [], ◌++◌, map, length, take}
use Rattle.costs.specs.declared.entry.Entry.{Entry}
use Rattle.sheets.specs.Frames.{fields}
use Rattle.library.specs.Books.{Rules, Book}
use Rattle.library.specs.Calls.{asks, replies, Answer}
use Rattle.library.specs.Checks.{Sizes}
use Rattle.library.specs.Law.{Sound}
use Rattle.library.specs.Memory.{Stands}
use Rattle.library.specs.Steps.{History}
use Rattle.library.specs.Theorems.{Fixed}
use Rattle.library.specs.declared.calls.Call.{Call}
use Rattle.library.specs.declared.row.Row.{Row}
use Rattle.listing.specs.Answers.{answers_lines, fault_line, mark_lines}
use Rattle.listing.specs.Cards.{rows_lines}
use Rattle.files.specs.Files.{made_of, calls_of, end_of, rows_asked, room_of}
use Rattle.files.specs.Laws.{Lawful}
use Rattle.files.specs.declared.form.Form.{Form}
use Rattle.files.specs.declared.form.Form.TheVariants.{Report, Journal}

-- a journal prints whether each block's card is current
abbrev pub marks_in : Form → List Row → List ℕ
marks_in Report index = []
marks_in Journal index = mark_lines 0 (take 64 index)

-- all that is printed, for amounts that are spelt so and take so many bytes: what each call answers, where reading ended early, the marks of a journal, and the current cards
abbrev pub file_lines : {M : Type 0} → (M → List ℕ) → ℕ → Form → ℕ → ℕ → List Call → List Answer → List (Entry M) → List Row → List (Entry M) → List ℕ
file_lines spelt wide form end total calls answers out index cards =
    answers_lines spelt wide index calls answers out ++ (fault_line end total ++ (marks_in form index ++ rows_lines spelt cards 0 (take 64 index)))

-- these calls were made on an empty library in tables of these sizes, lent so many working rows and so many rows for lists, and this is what is printed of them
pub record Carried {M : Type 0} (rules : Rules M) (spelt : M → List ℕ) (form : Form) (sizes : Sizes) (rows lent : ℕ) (calls : List Call) (end total : ℕ) (text : List ℕ) : Type 0 where
  -- the answers, whose lists stand in the rows lent for them
  pub answers : List Answer
  pub out : List (Entry M)
  -- a book with exactly this history of calls and whole answers, and tables that stand for it and keep the law
  pub book : Book M
  pub history : History rules sizes (asks rows lent calls) (replies calls answers out) book
  pub shelf : List ℕ
  pub index : List Row
  pub cards : List (Entry M)
  pub stands : Stands rules book shelf index cards
  pub sound : Sound rules book index cards
  -- where the reducer computes a function, each current card is exactly the plain function's, and a next call has one answer
  pub fixed : Fixed rules book
  pub text_is : text ≡ file_lines spelt rules.wide form end total calls answers out index cards

-- this text is what a file's bytes come to: its calls, carried out in the room of its form, with rows for every list that they ask for
pub record Printed {M : Type 0} (rules : Rules M) (spelt : M → List ℕ) (form : Form) (bytes text : List ℕ) : Type 0 where
  pub calls : List Call
  pub asked : map made_of calls ≡ calls_of form (fields bytes)
  pub carried : Carried rules spelt form (room_of form) 3072 (min (rows_asked calls) (2 ^ 64 - 1)) calls (end_of form 0 (fields bytes)) (length bytes) text

-- the same, and each entry of a current card is a run's, with no premise left
abbrev pub PrintedLawfully : {M : Type 0} → Rules M → (M → List ℕ) → Form → List ℕ → List ℕ → Type 0
PrintedLawfully by spelt form bytes text = (p : Printed by spelt form bytes text) × Lawful by p.carried.book p.carried.index p.carried.cards

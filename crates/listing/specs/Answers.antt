-- The lines about calls, answers and marks. Assumes nothing.
use Rattle.std.specs.Prelude.{ℕ, ◌+◌, Bool, cond, ◌&&◌, List, [], ◌∷◌, ◌++◌, length, take, drop, is_ok, Ok, Err, None, codes, decimal, ◌==◌}
use Rattle.costs.specs.declared.entry.Entry.{Entry}
use Rattle.networks.specs.Rows.{list_at}
use Rattle.sheets.specs.Refusals.{framing_of, check_of}
use Rattle.sheets.specs.Sheets.{sheet_of}
use Rattle.library.specs.Calls.{asked, taken, Answer}
use Rattle.library.specs.Refusals.{Told, told}
use Rattle.library.specs.Steps.{Ask, enter, preview, retime, rework, card}
use Rattle.library.specs.Tables.{row_at}
use Rattle.library.specs.declared.calls.Accepted.TheVariants.{Entered, Previewed, Done, Shown}
use Rattle.library.specs.declared.calls.Call.{Call}
use Rattle.library.specs.declared.row.Row.{Row}
use Rattle.listing.specs.Cards.{list_lines, card_lines}
use Rattle.listing.specs.Lines.{words}

-- the tag of a call in a file
abbrev pub tag_of : Ask → ℕ
tag_of (enter bs) = 9
tag_of (preview w bs) = 10
tag_of (retime n k new) = 11
tag_of (rework n) = 12
tag_of (card n e) = 13

-- how many outputs a sheet with amounts of so many bytes has; none if the bytes make no such sheet
abbrev pub outputs_of : ℕ → List ℕ → ℕ
outputs_of wide bs = cond (is_ok (framing_of bs) && is_ok (check_of wide bs)) (sheet_of wide bs).face.outputs 0

-- how many outputs the block has whose lists a call asks for, and the event asked for
abbrev pub outputs_asked : ℕ → List Row → Ask → ℕ
outputs_asked wide index (enter bs) = 0
outputs_asked wide index (preview w bs) = outputs_of wide bs
outputs_asked wide index (retime n k new) = 0
outputs_asked wide index (rework n) = 0
outputs_asked wide index (card n e) = (row_at index n).outputs

abbrev pub event_asked : Ask → ℕ
event_asked (enter bs) = 0
event_asked (preview w bs) = 0
event_asked (retime n k new) = 0
event_asked (rework n) = 0
event_asked (card n e) = e

-- a line of numbers, the tag first
abbrev pub number_line : ℕ → List ℕ → List ℕ
number_line tag ns = decimal tag ++ (words ns ++ codes "\n")

-- a refusal: the tag, refusal, level and place
abbrev pub refusal_line : ℕ → Told → List ℕ
refusal_line tag t = number_line tag (t.number ∷ t.level ∷ t.place ∷ [])

-- a word and a number
abbrev pub word_line : List ℕ → ℕ → List ℕ
word_line word n = word ++ (words (n ∷ []) ++ codes "\n")

-- for amounts that are spelt so, and take so many bytes
module _ {M : Type 0} (spelt : M → List ℕ) (wide : ℕ) where
  -- the lines of an answer: the tag, 0 and what is answered, and the entries of its lists, which stand in these rows; or the tag, refusal, level and place
  abbrev pub answer_lines : List Row → Ask → Answer → List (Entry M) → List ℕ
  answer_lines index ask (Ok (Entered n)) rows = number_line (tag_of ask) (0 ∷ n ∷ [])
  answer_lines index ask (Ok (Previewed lens)) rows = number_line (tag_of ask) (0 ∷ []) ++ card_lines spelt (codes "entry") None (outputs_asked wide index ask) (list_at rows lens) 0 8
  answer_lines index ask (Ok Done) rows = number_line (tag_of ask) (0 ∷ [])
  answer_lines index ask (Ok (Shown len)) rows = number_line (tag_of ask) (0 ∷ len ∷ []) ++ list_lines spelt (codes "entry") None (event_asked ask) (outputs_asked wide index ask) 0 (take len rows)
  answer_lines index ask (Err e) rows = refusal_line (tag_of ask) (told e)

  -- the lines of all answers, each with the rows that its call took
  abbrev pub answers_lines : List Row → List Call → List Answer → List (Entry M) → List ℕ
  answers_lines index [] answers out = []
  answers_lines index (call ∷ calls) [] out = []
  answers_lines index (call ∷ calls) (answer ∷ answers) out =
      answer_lines index (asked call) answer (take (taken (length out) call) out) ++ answers_lines index calls answers (drop (taken (length out) call) out)

-- where reading ended before the end of the file
abbrev pub fault_line : ℕ → ℕ → List ℕ
fault_line end total = cond (end == total) [] (word_line (codes "file") end)

-- whether a card is out of date
abbrev pub mark_word : Bool → List ℕ
mark_word old = cond old (codes "stale") (codes "current")

-- whether each block's card is current, from block n on
abbrev pub mark_lines : ℕ → List Row → List ℕ
mark_lines n [] = []
mark_lines n (r ∷ rs) = cond r.used (word_line (mark_word r.old) n ++ mark_lines (n + 1) rs) []

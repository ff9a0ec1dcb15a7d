-- A list of calls and the answers that were collected, as what was asked and what was replied. Assumes nothing.
use Rattle.std.specs.Prelude.{ℕ, ◌+◌, ◌-◌, min, cond, List, [], ◌∷◌, length, take, drop, nat_le, Result, Ok, Err}
use Rattle.costs.specs.declared.entry.Entry.{Entry}
use Rattle.networks.specs.Rows.{list_at}
use Rattle.library.specs.Checks.{Lent}
use Rattle.library.specs.Refusals.{told}
use Rattle.library.specs.Steps.{Ask, enter, preview, retime, rework, card, Asked, Reply, entered, previewed, done, shown, refused}
use Rattle.library.specs.declared.calls.Call.{Call}
use Rattle.library.specs.declared.calls.Call.TheVariants.{Enter, Preview, Retime, Rework, Card}
use Rattle.library.specs.declared.calls.Accepted.{Accepted}
use Rattle.library.specs.declared.calls.Accepted.TheVariants.{Entered, Previewed, Done, Shown}
use Rattle.library.specs.declared.refusal.Refusal.{Refusal}

-- what a call asks
abbrev pub asked : Call → Ask
asked (Enter sheet rows) = enter sheet.now
asked (Preview sheet width rows out) = preview width.bytes sheet.now
asked (Retime n k amount) = retime n k amount.now
asked (Rework n rows) = rework n
asked (Card n e out) = card n e

-- how many working rows a call is to be lent
abbrev pub rows_for : Call → ℕ
rows_for (Enter sheet rows) = rows
rows_for (Preview sheet width rows out) = rows
rows_for (Retime n k amount) = 0
rows_for (Rework n rows) = rows
rows_for (Card n e out) = 0

-- how many of the caller's rows a call is to be lent
abbrev pub out_for : Call → ℕ
out_for (Enter sheet rows) = 0
out_for (Preview sheet width rows out) = out
out_for (Retime n k amount) = 0
out_for (Rework n rows) = 0
out_for (Card n e out) = out

-- how many of the caller's rows its lists take: a preview 128, a card 16
abbrev pub takes : Call → ℕ
takes (Enter sheet rows) = 0
takes (Preview sheet width rows out) = 128
takes (Retime n k amount) = 0
takes (Rework n rows) = 0
takes (Card n e out) = 16

-- what a call is lent, of so many working rows and so many of the caller's rows that are left: as many as it says, and of the caller's rows no more than its lists take
abbrev pub lent_to : ℕ → ℕ → Call → Lent
lent_to rows left call = record { rows = min (rows_for call) rows; out = min (takes call) (min (out_for call) left) }

-- how many of the caller's rows that are left the call takes: all that its lists take, if so many are lent, or none
abbrev pub taken : ℕ → Call → ℕ
taken left call = cond (nat_le (takes call) (min (out_for call) left)) (takes call) 0

-- how many of the caller's rows these calls take
abbrev pub cursor : ℕ → List Call → ℕ
cursor left [] = 0
cursor left (call ∷ calls) = taken left call + cursor (left - taken left call) calls

-- the calls of a list as they were made, where so many working rows and so many of the caller's rows are lent in all
abbrev pub asks : ℕ → ℕ → List Call → List Asked
asks rows left [] = []
asks rows left (call ∷ calls) = record { ask = asked call; lent = lent_to rows left call } ∷ asks rows (left - taken left call) calls

-- what a call answers: that it is accepted, or why it is turned down
abbrev pub Answer : Type 0
Answer = Result Accepted Refusal

-- an answer, whole: its lists stand in these rows, which its call took
abbrev pub replied : {M : Type 0} → Answer → List (Entry M) → Reply M
replied (Ok (Entered n)) out = entered n
replied (Ok (Previewed lens)) out = previewed (list_at out lens)
replied (Ok Done) out = done
replied (Ok (Shown len)) out = shown (take len out)
replied (Err e) out = refused (told e)

-- the answers of a list of calls, whole, each with the rows that its call took
abbrev pub replies : {M : Type 0} → List Call → List Answer → List (Entry M) → List (Reply M)
replies [] answers out = []
replies (call ∷ calls) [] out = []
replies (call ∷ calls) (answer ∷ answers) out = replied answer (take (taken (length out) call) out) ∷ replies calls answers (drop (taken (length out) call) out)

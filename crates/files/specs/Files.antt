-- The calls that a file makes, field by field, and the room that its library has. Assumes nothing.
use Rattle.std.specs.Prelude.{ℕ, ◌+◌, ◌-◌, ◌*◌, ◌^◌, cond, List, [], ◌∷◌, Some, None, Option, ◌==◌}
use Rattle.sheets.specs.Frames.{Raw, size}
use Rattle.library.specs.Calls.{asked, rows_for, out_for, taken}
use Rattle.library.specs.Steps.{Ask, enter, preview, retime, rework, card}
use Rattle.library.specs.Checks.{Sizes}
use Rattle.library.specs.declared.calls.Call.{Call}
use Rattle.files.specs.declared.form.Form.{Form}
use Rattle.files.specs.declared.form.Form.TheVariants.{Report, Journal}

-- room for so many blocks, and for so many bytes of sheets
abbrev pub blocks_in : Form → ℕ
blocks_in Report = 32
blocks_in Journal = 64

abbrev pub bytes_in : Form → ℕ
bytes_in Report = 32768
bytes_in Journal = 65536

-- how long the library's tables are; a card takes 128 rows
abbrev pub room_of : Form → Sizes
room_of form = record { shelf = bytes_in form; index = blocks_in form; cards = 128 * blocks_in form }

-- a call: what it asks, and how many working rows and how many of the caller's rows it is to be lent
pub record Made : Type 0 where
  pub ask : Ask
  pub rows : ℕ
  pub out : ℕ

-- what a call of a list says
abbrev pub made_of : Call → Made
made_of c = record { ask = asked c; rows = rows_for c; out = out_for c }

-- the same of a call that may be missing
abbrev pub shown_call : Option Call → Option Made
shown_call None = None
shown_call (Some c) = Some (made_of c)

-- another amount: block, algorithm, and the amount's bytes, any number of them
abbrev pub retime_of : List ℕ → Option Made
retime_of [] = None
retime_of (n ∷ []) = None
retime_of (n ∷ k ∷ amount) = Some (record { ask = retime n k amount; rows = 0; out = 0 })

-- working again: the block
abbrev pub rework_of : List ℕ → Option Made
rework_of [] = None
rework_of (n ∷ []) = Some (record { ask = rework n; rows = 3072; out = 0 })
rework_of (n ∷ k ∷ more) = None

-- a card: block and event
abbrev pub card_of : List ℕ → Option Made
card_of [] = None
card_of (n ∷ []) = None
card_of (n ∷ e ∷ []) = Some (record { ask = card n e; rows = 0; out = 16 })
card_of (n ∷ e ∷ k ∷ more) = None

-- the call of a field of a journal that is no sheet to enter, by its tag: 10 preview at four bytes, 11 retime, 12 rework, 13 card
abbrev pub any_call : Raw → Option Made
any_call f =
    cond (f.tag == 10) (Some (record { ask = preview 4 f.content; rows = 3072; out = 128 }))
    (cond (f.tag == 11) (retime_of f.content)
    (cond (f.tag == 12) (rework_of f.content)
    (cond (f.tag == 13) (card_of f.content) None)))

-- what a file may hold beside sheets
abbrev pub others_in : Form → Raw → Option Made
others_in Report f = None
others_in Journal f = any_call f

-- the call of a field: 9 is a sheet to enter
abbrev pub call_of : Form → Raw → Option Made
call_of form f = cond (f.tag == 9) (Some (record { ask = enter f.content; rows = 3072; out = 0 })) (others_in form f)

-- a call, if there is one, and then more
abbrev pub then_calls : Option Made → List Made → List Made
then_calls None more = []
then_calls (Some c) more = c ∷ more

-- the calls of a file's fields, up to the first that makes none
abbrev pub calls_of : Form → List Raw → List Made
calls_of form [] = []
calls_of form (f ∷ fs) = then_calls (call_of form f) (calls_of form fs)

-- how far, if there is a call
abbrev pub then_end : Option Made → ℕ → ℕ → ℕ
then_end None here further = here
then_end (Some c) here further = further

-- the offset behind these calls, where the fields begin at an offset
abbrev pub end_of : Form → ℕ → List Raw → ℕ
end_of form at [] = at
end_of form at (f ∷ fs) = then_end (call_of form f) at (end_of form (at + size f) fs)

-- how many of the caller's rows calls take, where as many are left as a number of 64 bits can say
abbrev pub rows_asked : List Call → ℕ
rows_asked [] = 0
rows_asked (c ∷ cs) = taken (2 ^ 64 - 1) c + rows_asked cs

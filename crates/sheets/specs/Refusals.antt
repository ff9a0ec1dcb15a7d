-- Refusals of a sheet's bytes by number, level and place, and what checks 1 and 2 answer. Assumes nothing.
use Rattle.std.specs.Prelude.{ℕ, cond, List, length, Some, None, Ok, Err, Option, Result, ◌==◌}
use Rattle.std.specs.Result.{result_and}
use Rattle.sheets.specs.Grammar.{fault}
use Rattle.sheets.specs.Frames.{fields, span}
use Rattle.sheets.specs.declared.refusal.Refusal.{Refusal}
use Rattle.sheets.specs.declared.refusal.Refusal.TheVariants.{Cut, Grammar}

-- 1: a field runs past the end; 2: a field cannot follow, or more is needed
abbrev pub number : Refusal → ℕ
number (Cut at) = 1
number (Grammar at) = 2

-- both are faults of the sheet
abbrev pub level : Refusal → ℕ
level (Cut at) = 1
level (Grammar at) = 1

-- an offset in the sheet, in bytes
abbrev pub place : Refusal → ℕ
place (Cut at) = at
place (Grammar at) = at

-- Check 1: the fields take all of the bytes. Else the one behind them runs past the end.
unfoldable pub framing_of : List ℕ → Result Unit Refusal
framing_of bs = cond (span (fields bs) == length bs) (Ok tt) (Err (Cut (span (fields bs))))

abbrev pub refused_at : Option ℕ → Result Unit Refusal
refused_at None = Ok tt
refused_at (Some at) = Err (Grammar at)

-- Check 2: each field may follow those before it, and nothing more is needed.
unfoldable pub check_of : ℕ → List ℕ → Result Unit Refusal
check_of width bs = refused_at (fault width (fields bs))

-- Check 1, and where it accepts, check 2: what the two answer one after the other.
abbrev pub both_of : ℕ → List ℕ → Result Unit Refusal
both_of width bs = result_and (framing_of bs) (check_of width bs)

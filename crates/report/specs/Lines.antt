-- The lines that a file of sheets is answered with, and how a line is spelt. Assumes nothing.
use Rattle.std.specs.Prelude.{ℕ, ◌+◌, cond, List, [], ◌∷◌, ◌++◌, length, Ok, Err, codes, decimal, Result, ◌==◌}
use Rattle.std.specs.Result.{result_map_both}
use Rattle.sheets.specs.Frames.{Raw, size, fields}
use Rattle.sheets.specs.Refusals.{number, level, place, both_of}
use Rattle.sheets.specs.declared.refusal.Refusal.{Refusal}
use Rattle.report.specs.declared.line.Line.{Line}
use Rattle.report.specs.declared.line.Line.TheVariants.{Checked, Refused, Fault}

-- check 1, then check 2 for the width; the sheet's length in bytes where both accept it
abbrev pub check_both : ℕ → List ℕ → Result ℕ Refusal
check_both w bs = result_map_both (λ _. length bs) (λ e. e) (both_of w bs)

abbrev pub line_of : Result ℕ Refusal → Line
line_of (Ok n) = Checked n
line_of (Err e) = Refused e

abbrev pub answer_of : ℕ → List ℕ → Line
answer_of w bs = line_of (check_both w bs)

-- A field of tag 9 is a sheet. Reading ends at a field of another tag, or where a field runs past the end.
abbrev pub lines_from : ℕ → ℕ → ℕ → List Raw → List Line
lines_from w total at [] = cond (at == total) [] (Fault at ∷ [])
lines_from w total at (f ∷ fs) = cond (f.tag == 9) (answer_of w f.content ∷ lines_from w total (at + size f) fs) (Fault at ∷ [])

-- the lines of a file: the fields that stand whole in it, from its first byte
abbrev pub lines_of : ℕ → List ℕ → List Line
lines_of w bs = lines_from w (length bs) 0 (fields bs)

-- a line's bytes
abbrev pub spelt : Line → List ℕ
spelt (Checked n) = codes "checked " ++ decimal n
spelt (Refused e) = codes "9 " ++ (decimal (number e) ++ (codes " " ++ (decimal (level e) ++ (codes " " ++ decimal (place e)))))
spelt (Fault at) = codes "file " ++ decimal at

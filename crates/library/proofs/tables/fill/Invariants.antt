-- The rows so far hold the value.
use Rattle.std.proofs.Common.{◌≡◌, take, replicate}
use Rattle.library.proofs.tables.fill.Given as goal

abbrev pub invariant-loop-row : goal.invariant-loop-row
invariant-loop-row g l = take l.row-index l.table ≡ replicate l.row-index l.value

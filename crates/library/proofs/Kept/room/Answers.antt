-- The first table that is too short, in their order.
use Rattle.std.proofs.Common.{arith}
use Rattle.library.proofs.Rooms.{lacks_shelf, lacks_index, lacks_blocks, lacks_cards, lacks_rows}
use Rattle.library.proofs.Kept.room.Goals as goal

pub returns-in_default : goal.returns-in_default
returns-in_default g c = lacks_shelf _ _ _ _ _ (omega (arith, c.in_default.ensures))

pub returns-then-at-self : goal.returns-then-at-self
returns-then-at-self g c = lacks_shelf _ _ _ _ _ (omega (arith, c.in-Some.ensures))

pub returns-then-len-self : goal.returns-then-len-self
returns-then-len-self g c = lacks_shelf _ _ _ _ _ (omega (arith, c.in-Some.ensures))

pub returns-then-n-self : goal.returns-then-n-self
returns-then-n-self g c = lacks_index _ _ _ _ _ (omega (arith, c.in-Some.ensures)) (omega arith)

pub returns-then-n-ge64 : goal.returns-then-n-ge64
returns-then-n-ge64 g c = lacks_blocks _ _ _ _ _ (omega (arith, c.in-Some.ensures)) (omega arith)

pub returns-then-self-n : goal.returns-then-self-n
returns-then-self-n g c = lacks_cards _ _ _ _ _ (omega (arith, c.in-Some.ensures)) (omega arith) (omega arith) (omega arith)

pub returns-then-rows-lt3072 : goal.returns-then-rows-lt3072
returns-then-rows-lt3072 g c = lacks_rows _ _ _ _ _ (omega (arith, c.in-Some.ensures)) (omega arith) (omega arith) (omega arith) (omega arith)

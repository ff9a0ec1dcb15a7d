-- The bytes that stand for the code's tags and kinds. Assumes nothing.
use Rattle.std.specs.Prelude.{ℕ}
use Rattle.sheets.specs.declared.tag.Tag.{Tag}
use Rattle.sheets.specs.declared.tag.Tag.TheVariants as T
use Rattle.sheets.specs.declared.words.Kind.{Kind}
use Rattle.sheets.specs.declared.words.Kind.TheVariants.{Basic, Service, Composite}

-- the first byte of a field
abbrev pub number : Tag → ℕ
number T.Interface = 1
number T.Amounts = 2
number T.State = 3
number T.Transition = 4
number T.Entry = 5
number T.Instance = 6
number T.Connection = 7

-- the byte of a kind
abbrev pub kind_number : Kind → ℕ
kind_number Basic = 1
kind_number Service = 2
kind_number Composite = 3

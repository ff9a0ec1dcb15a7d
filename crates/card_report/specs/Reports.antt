-- What the report prints, by the words: whether memory is measured in place of ticks, and whether merge reduces in place of keep. Assumes nothing.
use Rattle.std.specs.Prelude.{ℕ, Bool, true, false, List}
use Rattle.files.specs.Laws.{ticks_keep, ticks_merge, memory_keep, memory_merge, ticks_text, memory_text}
use Rattle.files.specs.Printing.{Printed, PrintedLawfully}
use Rattle.files.specs.declared.form.Form.TheVariants.{Report}

-- this text is what a file's bytes come to; by keep, which selects, each entry printed is a run's
abbrev pub Reported : Bool → Bool → List ℕ → List ℕ → Type 0
Reported false false bytes text = PrintedLawfully ticks_keep ticks_text Report bytes text
Reported false true bytes text = Printed ticks_merge ticks_text Report bytes text
Reported true false bytes text = PrintedLawfully memory_keep memory_text Report bytes text
Reported true true bytes text = Printed memory_merge memory_text Report bytes text

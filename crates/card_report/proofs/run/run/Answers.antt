-- Keep selects, so that entries are those of runs without a premise.
use Rattle.std.proofs.Common.{string_bytes}
use Rattle.costs.proofs.Interface.{keep_selects}
use Rattle.costs.specs.Entries.{entry_ops}
use Rattle.costs.specs.Measures.{ticks_ops, memory_ops}
use Rattle.files.proofs.Printing.{printed_lawfully}
use Rattle.files.specs.Laws.{ticks_keep, ticks_text, memory_keep, memory_text}
use Rattle.files.specs.declared.form.Form.TheVariants.{Report}
use Rattle.card_report.proofs.run.run.Goals as goal

pub returns-in-false-false : goal.returns-in-false-false
returns-in-false-false c =
    rw (c.in-false-false.is-0, c.in-false-false.is-1)
    (printed_lawfully ticks_keep ticks_text Report c.args.bytes.now string_bytes c.session-in-false-false.result (keep_selects (entry_ops ticks_ops)) c.session-in-false-false.ensures)

pub returns-in-true-false : goal.returns-in-true-false
returns-in-true-false c =
    rw (c.in-true-false.is-0, c.in-true-false.is-1)
    (printed_lawfully memory_keep memory_text Report c.args.bytes.now string_bytes c.session-in-true-false.result (keep_selects (entry_ops memory_ops)) c.session-in-true-false.ensures)

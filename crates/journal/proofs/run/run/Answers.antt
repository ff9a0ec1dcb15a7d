-- Keep selects, so that entries are those of runs without a premise.
use Rattle.std.proofs.Common.{string_bytes}
use Rattle.costs.proofs.Interface.{keep_selects}
use Rattle.costs.specs.Entries.{entry_ops}
use Rattle.costs.specs.Measures.{ticks_ops}
use Rattle.files.proofs.Printing.{printed_lawfully}
use Rattle.files.specs.Laws.{ticks_keep, ticks_text}
use Rattle.files.specs.declared.form.Form.TheVariants.{Journal}
use Rattle.journal.proofs.run.run.Goals as goal

pub returns : goal.returns
returns c = printed_lawfully ticks_keep ticks_text Journal c.args.bytes.now string_bytes c.session.result (keep_selects (entry_ops ticks_ops)) c.session.ensures

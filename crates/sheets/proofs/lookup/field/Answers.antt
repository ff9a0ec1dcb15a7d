use Rattle.std.proofs.Common.{sym, ◌∙◌, rules}
use Rattle.sheets.proofs.Reading.{said_found}
use Rattle.sheets.proofs.lookup.field.Goals as goal

pub returns : goal.returns
returns c = c.read.ensures ∙ sym (said_found _ _ _ _ c.in_ok-find.ensures)

pub returns-in_err-find : goal.returns-in_err-find
returns-in_err-find c = let none = said_found _ _ _ _ c.in_err-find.ensures in search rules

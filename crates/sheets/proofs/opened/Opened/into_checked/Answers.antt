use Rattle.sheets.proofs.Forms.{form_of}
use Rattle.sheets.proofs.opened.Opened.into_checked.Goals as goal

pub returns-clause-form : goal.returns-clause-form
returns-clause-form c = form_of _ _ c.requires

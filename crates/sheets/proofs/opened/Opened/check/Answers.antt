use Rattle.std.proofs.Common.{sym, subst}
use Rattle.sheets.specs.Lawful.{Grammatical}
use Rattle.sheets.proofs.Meaning.{check_means}
use Rattle.sheets.proofs.opened.Opened.check.Goals as goal

pub returns-clause-means : goal.returns-clause-means
returns-clause-means c =
    let bs = c.args.self.now.bytes.now in
    subst (Grammatical c.args.width.bytes bs) (sym c.grammar.ensures) (check_means c.args.width.bytes bs)

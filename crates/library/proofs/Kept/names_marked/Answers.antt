-- Whether one of all instances was found.
use Rattle.std.proofs.Common.{ℕ, List, refl, rules, tests, arith}
use Rattle.std.proofs.lemmas.Iterator.{YieldsList-from_range, cases_from_any}
use Rattle.sheets.specs.Sheets.{sheet_of}
use Rattle.library.specs.Marks.{NamesMarked}
use Rattle.library.proofs.Leaning.{leans_any}
use Rattle.library.proofs.Kept.names_marked.Goals as goal

pub returns : goal.returns
returns g c =
    let ks : List ℕ = (sheet_of c.args.sheet.now.width.bytes c.args.sheet.now.bytes.now).instances in
    let index = c.args.self.now.index.now in
    let Here = NamesMarked index c.args.n ks in
    let n = c.count.result in
    leans_any index c.args.n ks n c.count.ensures c.any.result
    (cases_from_any _ _ _ Here (λ i. Here i → ⊥) c.any.ensures.ran (YieldsList-from_range 0 n n refl (omega arith)) (λ x q k. search (rules, tests)) (λ x q k. search (rules, tests)))

use Rattle.std.proofs.Common.{◌≤◌, leb, length, take, ◌∙◌, rules, tests}
use Rattle.std.proofs.lemmas.Iterator.{YieldsList-from_slice}
use Rattle.std.proofs.lemmas.Iterator.Search.{all_from_yields_List}
use Rattle.sheets.proofs.Rules.{each_all}
use Rattle.sheets.proofs.seen.Seen.each_event.Goals as goal

pub returns : goal.returns
returns c =
    let s = c.args.self.now in
    let within : s.inputs ≤ length s.entries = search rules in
    all_from_yields_List (leb 1) _ _ _ c.all.ensures.ran (YieldsList-from_slice (take s.inputs s.entries) cc) (λ x b q k. search (rules, tests))
    ∙ each_all s.inputs s.entries within

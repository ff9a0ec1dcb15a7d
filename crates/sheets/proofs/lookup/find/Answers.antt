use Rattle.std.proofs.Common.{eqb, ap, ◌∙◌, rules, tests}
use Rattle.std.specs.List.{slice_get}
use Rattle.std.proofs.lemmas.Iterator.Consumers.{nth_from_yields_List, YieldsList-at, YieldsList-from_filter, YieldsList-from_first}
use Rattle.sheets.specs.Frames.{fields, laid}
use Rattle.sheets.specs.Places.{place, to_come}
use Rattle.sheets.proofs.Reading.{filter_laid}
use Rattle.sheets.specs.Tags.{number}
use Rattle.sheets.proofs.lookup.find.Goals as goal

pub returns : goal.returns
returns c =
    let all = laid 0 (fields c.args.bytes.now) in
    nth_from_yields_List _ c.nth.new.self c.args.k c.nth.ensures.ran
    (YieldsList-from_filter _ (λ p. eqb p.1.tag (number c.args.tag)) (YieldsList-at c.filter.ensures.source (YieldsList-from_first place to_come all c.of.ensures)) c.filter.ensures.closure (λ x r q k. search (rules, tests)))
    ∙ ap (λ l. slice_get l c.args.k) (filter_laid (number c.args.tag) 0 (fields c.args.bytes.now))

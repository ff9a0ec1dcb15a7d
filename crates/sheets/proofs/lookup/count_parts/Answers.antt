use Rattle.std.proofs.Common.{eqb, length, ap, ◌∙◌, inl, arith, rules, tests}
use Rattle.std.proofs.lemmas.Iterator.Consumers.{count_from_yields_List, YieldsList-at, YieldsList-from_filter, YieldsList-from_first}
use Rattle.sheets.specs.Frames.{fields, laid}
use Rattle.sheets.specs.Places.{place, to_come}
use Rattle.sheets.proofs.Walk.{few_laid}
use Rattle.sheets.proofs.Reading.{filter_laid, length_placed}
use Rattle.sheets.specs.Tags.{number}
use Rattle.sheets.proofs.lookup.count_parts.Goals as goal

pub count-requires-clause-fits : goal.count-requires-clause-fits
count-requires-clause-fits c = let s = c.filter.result.iter in inl (omega (arith, few_laid s.at s.rest.now, s.within))

pub returns : goal.returns
returns c =
    let all = laid 0 (fields c.args.bytes.now) in
    count_from_yields_List c.filter.result _ c.count.ensures.ran
    (YieldsList-from_filter _ (λ p. eqb p.1.tag (number c.args.tag)) (YieldsList-at c.filter.ensures.source (YieldsList-from_first place to_come all c.of.ensures)) c.filter.ensures.closure (λ x r q k. search (rules, tests)))
    ∙ ap length (filter_laid (number c.args.tag) 0 (fields c.args.bytes.now)) ∙ length_placed (number c.args.tag) 0 (fields c.args.bytes.now)

-- One field more, the first that makes no call, or the end.
use Rattle.std.proofs.Common.{◌≡◌, [], ◌∷◌, ◌++◌, ◌<◌, ◌^◌, rules, arith}
use Rattle.files.proofs.Decoding.{field_end, call_more, calls_stop, end_stop, calls_all, end_all}
use Rattle.files.proofs.decode.decode.Goals as goal

pub returns-in_default-clause-calls : goal.returns-in_default-clause-calls
returns-in_default-clause-calls c = calls_stop c.args.form _ _ _ _ c.loop-field.invariant c.in-Some.field _ c.in-Some.ensures.steps c.in_default.ensures

pub returns-in_default-clause-end : goal.returns-in_default-clause-end
returns-in_default-clause-end c = end_stop c.args.form _ _ _ _ c.loop-field.invariant c.in-Some.field _ c.in-Some.ensures.steps c.in_default.ensures

pub loop-field-preserved : goal.loop-field-preserved
loop-field-preserved c =
    let added : c.push.new.self.items ≡ c.loop-field.calls.items ++ c.in-Some-read_call.call ∷ [] = search rules in
    let field = c.in-Some.field in
    let ends = field_end c.args.form _ _ _ _ c.loop-field.invariant field _ c.in-Some.ensures.steps in
    -- for whatever way the end is written: as the field's own, or added up
    let fits : field.end < 2 ^ 64 = search rules in
    call_more c.args.form _ _ _ _ c.loop-field.invariant field _ c.in-Some.ensures.steps _ _ _ c.in-Some-read_call.ensures added (omega (arith, ends, fits))

pub returns-clause-calls : goal.returns-clause-calls
returns-clause-calls c = calls_all c.args.form _ _ _ _ c.loop-field.invariant c.in-None.ensures.steps.0

pub returns-clause-end : goal.returns-clause-end
returns-clause-end c = end_all c.args.form _ _ _ _ c.loop-field.invariant c.in-None.ensures.steps.0

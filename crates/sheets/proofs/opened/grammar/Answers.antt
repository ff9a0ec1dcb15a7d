use Rattle.std.proofs.Common.{◌≡◌, Some, None, Err, MatchOption, sym, ap, subst, ◌∙◌, rules}
use Rattle.std.proofs.lemmas.Bool.{cond-true, cond-false}
use Rattle.sheets.specs.Parts.{raw}
use Rattle.sheets.specs.Places.{to_come}
use Rattle.sheets.specs.Seen.{Started}
use Rattle.sheets.specs.Refusals.{refused_at, check_of}
use Rattle.sheets.specs.declared.refusal.Refusal.TheVariants.{Grammar}
use Rattle.sheets.proofs.Sofar.{Sofar, no_start, start, again, stopped, ended}
use Rattle.sheets.proofs.opened.grammar.Goals as goal

pub returns-in_err-seen : goal.returns-in_err-seen
unfolding check_of
returns-in_err-seen c =
    let w = c.args.width.bytes in
    let bs = c.args.bytes.now in
    let made : MatchOption c.next.result (c.and_then.result ≡ None) (λ x. Started (raw x.part) c.and_then.result) = search rules in
    let none : c.and_then.result ≡ None = search rules in
    let at = no_start w bs c.of-fields.result c.next.new.self c.next.result c.and_then.result c.of-fields.ensures c.next.ensures.steps made none in
    let is : check_of w bs ≡ Err (Grammar 0) = ap refused_at at in
    search rules

pub loop-field-init : goal.loop-field-init
loop-field-init c =
    let made : MatchOption c.next.result (c.and_then.result ≡ None) (λ x. Started (raw x.part) c.and_then.result) = search rules in
    let some : c.and_then.result ≡ Some c.in_ok-seen.seen = search rules in
    let w = c.args.width.bytes in
    let bs = c.args.bytes.now in
    let began = start w bs c.of-fields.result c.next.new.self c.next.result c.and_then.result c.of-fields.ensures c.next.ensures.steps made c.in_ok-seen.seen some in
    subst (λ t. Sofar w bs (to_come t) 6 c.in_ok-seen.seen) (sym c.into_iter-field-iterator.ensures.into_iter_gives) began

pub returns-then-not-follow : goal.returns-then-not-follow
unfolding check_of
returns-then-not-follow c =
    sym (ap refused_at (stopped _ _ _ _ _ c.loop-field.invariant c.in-Some.field _ c.in-Some.ensures.steps (sym c.if-not-follow.ensures.value)))

pub loop-field-preserved : goal.loop-field-preserved
loop-field-preserved c =
    again _ _ _ _ _ c.loop-field.invariant c.in-Some.field _ c.in-Some.ensures.steps c.follow.new.self (sym c.if-not-follow.ensures.value) (search rules)

pub returns-then-complete : goal.returns-then-complete
unfolding check_of
returns-then-complete c =
    sym (ap refused_at (ended _ _ _ _ _ c.loop-field.invariant c.in-None.ensures.steps.0 ∙ cond-true _ _ _ (sym c.if-complete.ensures)))

pub returns-else-complete : goal.returns-else-complete
unfolding check_of
returns-else-complete c =
    sym (ap refused_at (ended _ _ _ _ _ c.loop-field.invariant c.in-None.ensures.steps.0 ∙ cond-false _ _ _ (sym c.if-complete.ensures)))

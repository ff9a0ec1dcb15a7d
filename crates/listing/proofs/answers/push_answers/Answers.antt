-- Every call that has an answer is told.
use Rattle.std.proofs.Common.{◌≡◌, min, length, arith}
use Rattle.std.proofs.lemmas.Slice.Zip.{zip_end}
use Rattle.listing.proofs.Answering.{answers_all}
use Rattle.listing.proofs.answers.push_answers.Goals as goal

pub returns : goal.returns
returns g c =
    let calls = c.args.calls.now in
    let answers = c.args.answers.now in
    let all : length c.loop-call.yielded ≡ min (length calls) (length answers) =
    zip_end calls answers c.loop-call.yielded c.into_iter-call-iterator.result c.loop-call.call-iterator c.next.new.self c.next.result (cc) (cc) c.loop-call.yielded_by c.in-None.is c.next.ensures.steps in
    answers_all g.M.Spelt.text g.M.Measure.wide c.args.index.now calls answers c.loop-call.rest.now _ _ (length c.loop-call.yielded) (omega (arith, all)) c.loop-call.invariant

-- The card in the caller's rows, with what is shown of it. Assumes nothing.
use Rattle.std.proofs.Common.{◌≡◌, ℕ, ◌+◌, ◌*◌, ◌<◌, Ok, Err, List, get_or, sym, refl, ◌∙◌, subst, arith}
use Rattle.std.proofs.lemmas.Result.{err_from_is_err_and}
use Rattle.costs.proofs.Interface.{length_list_at, same_part, same_at}
use Rattle.costs.specs.Entries.{entry_ops}
use Rattle.costs.specs.Lists.{Sized}
use Rattle.costs.specs.declared.entry.Entry.{Entry}
use Rattle.networks.proofs.Finish.{sheet_given}
use Rattle.networks.proofs.Promised.{covers_all, attains_all, evaluates_all}
use Rattle.networks.proofs.card.card.Goals as goal
use Rattle.networks.specs.Cards.{EventList}
use Rattle.networks.specs.Forming.{list}
use Rattle.networks.specs.Networks.{says, network_of}
use Rattle.networks.specs.Refusals.{Carded}
use Rattle.networks.specs.Rows.{list_at}

pub returns-in_err-lens : goal.returns-in_err-lens
returns-in_err-lens g c =
    let faces = g.B.Beneath.faces c.args.beneath.now in
    let card : ℕ → ℕ → List (Entry g.row.M.Denot) = g.B.Beneath.cards c.args.beneath.now in
    let given = sheet_given c.args.sheet.now faces card c.requires.named c.requires.fit in
    let net = network_of (says c.args.sheet.now) faces in
    let refused = c.in_err-lens.ensures.answer in
    let p = err_from_is_err_and c.from_residual.result c.from_residual.ensures.1 in
    rw (p.1, p.2) (record { answer = refused; rows = refl; covers = tt; attained = tt; evaluated = evaluates_all g.met.M.Measure.lawful g.met.R.Reducer.sound net card given (list_at c.args.out.now) (Err c.in_err-lens.field-0.0) refused })

pub returns : goal.returns
returns g c =
    let ops = g.M.Measure.ops in
    let faces = g.B.Beneath.faces c.args.beneath.now in
    let card : ℕ → ℕ → List (Entry g.row.M.Denot) = g.B.Beneath.cards c.args.beneath.now in
    let given = sheet_given c.args.sheet.now faces card c.requires.named c.requires.fit in
    let net = network_of (says c.args.sheet.now) faces in
    let lens = c.in_ok-lens.lens in
    let out = c.copy_rows.new.out in
    let rows = c.card_in.new.gathered in
    let carded = c.in_ok-lens.ensures.answer in
    let finished = c.in_ok-lens.ensures.rows.0 in
    let short = finished.lent.short in
    let front = c.copy_rows.ensures.front in
    let same : (e : ℕ) → e < net.inputs → list_at out lens e ≡ list_at rows lens e = λ e within. same_part out rows 128 front (16 * e) (get_or lens e 0) (omega (arith, short e, within, given.inputs)) in
    let answer : Carded ops g.R.Reducer.gives net card (list_at out lens) = record {
      formed = record {
        table = carded.formed.table;
        worked = carded.formed.worked;
        events = λ e within. subst (λ es. EventList ops g.R.Reducer.gives carded.formed.table net.connections e (list es)) (sym (same e within)) (carded.formed.events e within);
      };
      no_circle = carded.no_circle;
      none_full = carded.none_full;
    } in
    let laws = g.met.M.Measure.lawful in
    let sound = g.met.R.Reducer.sound in
    let runs = g.B.Beneath.runs c.args.beneath.now in
    record {
      answer = answer;
      rows = record {
        eight = c.in_ok-lens.ensures.rows.1;
        sized = λ e within.
            let long = length_list_at rows lens e finished.lent in
            subst Sized (sym (same e within)) (omega (arith, long, finished.some e within), omega (arith, long, short e));
        unused = finished.unused;
        padded = λ e j low past small. same_at out rows 128 front (16 * e + j) (entry_ops ops).zero (omega arith) ∙ finished.padded e j past small;
        rest = c.copy_rows.ensures.rest;
      };
      covers = covers_all laws sound net card given (list_at out) runs (Ok lens) answer;
      attained = attains_all laws sound net card given (list_at out) runs (Ok lens) answer;
      evaluated = evaluates_all laws sound net card given (list_at out) (Ok lens) answer;
    }

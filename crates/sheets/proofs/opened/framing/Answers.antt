use Rattle.std.proofs.Common.{◌≡◌, Ok, Err, sym, subst, rules}
use Rattle.sheets.specs.declared.refusal.Refusal.TheVariants.{Cut}
use Rattle.sheets.specs.Frames.{fields, span}
use Rattle.sheets.specs.Refusals.{framing_of}
use Rattle.sheets.specs.Split.{Framing}
use Rattle.sheets.proofs.Splitting.{framing_means}
use Rattle.sheets.proofs.Walk.{end_or, last_ends}
use Rattle.sheets.proofs.opened.framing.Goals as goal

pub returns-then-end-bytes : goal.returns-then-end-bytes
unfolding framing_of
returns-then-end-bytes c =
    let last : end_or c.last.result ≡ span (fields c.args.bytes.now) = last_ends _ _ _ c.of.ensures c.last.ensures.ran in
    let end : c.map_or-end.result ≡ end_or c.last.result = search rules in
    let is : Ok tt ≡ framing_of c.args.bytes.now = search rules in
    record { value = is; means = subst (Framing c.args.bytes.now) (sym is) (framing_means c.args.bytes.now) }

pub returns-else-end-bytes : goal.returns-else-end-bytes
unfolding framing_of
returns-else-end-bytes c =
    let last : end_or c.last.result ≡ span (fields c.args.bytes.now) = last_ends _ _ _ c.of.ensures c.last.ensures.ran in
    let end : c.map_or-end.result ≡ end_or c.last.result = search rules in
    let is : Err (Cut c.map_or-end.result) ≡ framing_of c.args.bytes.now = search rules in
    record { value = is; means = subst (Framing c.args.bytes.now) (sym is) (framing_means c.args.bytes.now) }

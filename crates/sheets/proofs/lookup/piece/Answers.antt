-- What is cut out at the place of piece k is that piece. Assumes nothing.
use Rattle.std.proofs.Common.{◌≡◌, ◌+◌, ◌*◌, ◌/◌, ◌<◌, ◌≤◌, ◌-◌, ◌⊎◌, length, drop, None, MatchOption, ap, subst, ◌∙◌, rules, tests, arith}
use Rattle.std.specs.List.{slice_range}
use Rattle.std.proofs.lemmas.List.{length-drop, take_all}
use Rattle.sheets.proofs.Pieces.{nth_piece, past_piece, cut_found}
use Rattle.sheets.proofs.lookup.piece.Goals as goal

pub returns-in_err-at : goal.returns-in_err-at
returns-in_err-at c =
    let w = c.args.width.bytes in
    let bs = c.args.content.now in
    let over : length bs < c.args.k * w + w = search (rules, arith) in
    let is = nth_piece w c.args.k bs None (past_piece (length bs) w c.args.k c.args.width.some over) c.args.width.some in
    search (rules, is)

pub returns-in_err-get : goal.returns-in_err-get
returns-in_err-get c =
    let w = c.args.width.bytes in
    let bs = c.args.content.now in
    let over : length bs < c.args.k * w + w = search (rules, arith) in
    let is = nth_piece w c.args.k bs None (past_piece (length bs) w c.args.k c.args.width.some over) c.args.width.some in
    search (rules, is)

pub returns : goal.returns
returns c =
    let w = c.args.width.bytes in
    let bs = c.args.content.now in
    let rest = c.in_ok-get.field-0.now in
    let from = c.in_ok-at.at in
    let len = length bs in
    let at : from ≡ c.args.k * w = search rules in
    let got = subst (λ o. MatchOption o ((len < from) ⊎ (len < len)) (λ x. (from ≤ len) × (len ≤ len) × (x.now ≡ slice_range bs from len) × (length x.now + from ≡ len))) c.in_ok-get.was c.get.ensures.lookup.0 in
    let long = length-drop from bs in
    let all : rest ≡ drop from bs = got.2 ∙ take_all (len - from) (drop from bs) (omega (arith, long)) in
    cut_found w c.args.k bs rest c.get-2.result c.args.width.some (search (rules, arith)) (all ∙ ap (λ n. drop n bs) at) (λ e. search (rules, tests, arith, e)) (λ x e. search (rules, tests, arith, e))

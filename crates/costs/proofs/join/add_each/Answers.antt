-- Each turn writes one sum more.
use Rattle.std.proofs.Common.{◌≡◌, ◌+◌, [], ◌∷◌, ◌++◌, map, get_or, take, set, sym, ap, ◌∙◌, arith}
use Rattle.std.proofs.lemmas.List.{append_assoc, map_more}
use Rattle.costs.specs.Entries.{entry_ops}
use Rattle.costs.specs.Lists.{Written}
use Rattle.costs.proofs.Writes.{written_more, written_as}
use Rattle.costs.proofs.join.add_each.Goals as goal

pub loop-j-preserved : goal.loop-j-preserved
loop-j-preserved g c =
    let f = (entry_ops g.M.Measure.ops).plus c.args.x in
    let ys = c.args.ys.now in
    let j = c.loop-j.j in
    let y = c.index-ys-j.result in
    let before = c.args.into.now in
    let front = take c.args.at before in
    let z = c.sum.result in
    let made : z ≡ f (get_or ys j y) = c.sum.ensures ∙ ap f c.index-ys-j.is in
    let out : (front ++ map f (take j ys)) ++ z ∷ [] ≡ front ++ map f (take (j + 1) ys) =
    append_assoc front (map f (take j ys)) (z ∷ []) ∙ ap (λ w. front ++ (map f (take j ys) ++ w ∷ [])) made ∙ ap (λ zs. front ++ zs) (sym (map_more f ys j y c.loop-j-test.true)) in
    let rows = set c.loop-j.into (c.args.at + j) z in
    let more : Written before rows (c.args.at + j + 1) ((front ++ map f (take j ys)) ++ z ∷ []) =
    written_more before c.loop-j.into (front ++ map f (take j ys)) (c.args.at + j) z (omega arith) c.loop-j.invariant in
    written_as before rows ((front ++ map f (take j ys)) ++ z ∷ []) (front ++ map f (take (j + 1) ys)) (c.args.at + j + 1) (c.args.at + (j + 1)) (omega arith) out more

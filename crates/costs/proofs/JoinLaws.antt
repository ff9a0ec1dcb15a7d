-- The step of a join. Assumes nothing.
use Rattle.std.proofs.Common.{◌≡◌, ℕ, ◌+◌, ◌<◌, List, [], ◌∷◌, ◌++◌, map, length, get_or, take, sym, ap, ◌∙◌}
use Rattle.std.proofs.lemmas.List.{take_more, flat_map_more}
use Rattle.costs.specs.Amounts.{Amounts}
use Rattle.costs.specs.Lists.{sums}

pub sums_more : {X : Type 0} (ops : Amounts X) (xs ys : List X) (i : ℕ) (x : X) → i < length xs → x ≡ get_or xs i x → sums ops (take i xs) ys ++ map (ops.plus x) ys ≡ sums ops (take (i + 1) xs) ys
sums_more ops xs ys i x l r =
    flat_map_more (λ x. map (ops.plus x) ys) [] (take i xs) x ∙ ap (λ zs. sums ops zs ys) (sym (take_more xs i x l ∙ ap (λ y. take i xs ++ y ∷ []) (sym r)))

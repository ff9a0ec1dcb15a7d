-- The field at the front, by places. Assumes nothing.
use Rattle.std.proofs.Common.{◌≡◌, ℕ, suc, ◌+◌, ◌*◌, ◌≤◌, List, [], ◌∷◌, length, get_or, take, drop, Some, refl, arith}
use Rattle.std.proofs.lemmas.List.{length-take-le}
use Rattle.std.proofs.lemmas.Bool.{cond-true, le-leb}
use Rattle.std.specs.Option.{option_map}
use Rattle.sheets.specs.Frames.{size, field_at}

three : (n : ℕ) → 3 + n ≡ suc (suc (suc n))
three n = omega arith

pub front : (bs : List ℕ) → 3 ≤ length bs → get_or bs 1 0 * 256 + get_or bs 2 0 ≤ length (drop 3 bs) → field_at bs ≡ Some (record { tag = get_or bs 0 0; content = take (get_or bs 1 0 * 256 + get_or bs 2 0) (drop 3 bs) })
front [] h l = absurd (omega arith)
front (t ∷ []) h l = absurd (omega arith)
front (t ∷ a ∷ []) h l = absurd (omega arith)
front (t ∷ a ∷ b ∷ rest) h l = cond-true _ _ _ (le-leb (a * 256 + b) (length rest) l)

pub after : (bs : List ℕ) → 3 ≤ length bs → get_or bs 1 0 * 256 + get_or bs 2 0 ≤ length (drop 3 bs) → option_map (λ f. drop (size f) bs) (field_at bs) ≡ Some (drop (get_or bs 1 0 * 256 + get_or bs 2 0) (drop 3 bs))
after [] h l = absurd (omega arith)
after (t ∷ []) h l = absurd (omega arith)
after (t ∷ a ∷ []) h l = absurd (omega arith)
after (t ∷ a ∷ b ∷ rest) h l =
    rw (cond-true _ _ _ (le-leb (a * 256 + b) (length rest) l))
    (let n : length (take (a * 256 + b) rest) ≡ a * 256 + b = length-take-le (a * 256 + b) rest l in
    rw (n, three) refl)

-- The mask has a bit for each count that is not lower; all eight set make 255.
use Rattle.std.proofs.Common.{◌≡◌, ◌∙◌, refl, ap, sym, ℕ, zero, suc, ◌+◌, ◌*◌, ◌%◌, ◌^◌, ◌&&◌, Bool, true, false, cond, List, [], ◌∷◌, length, eqb, leb, arith}
use Rattle.std.proofs.lemmas.Bool.{eqb-true, eq-eqb, ne_eqb}
use Rattle.std.proofs.lemmas.Bool.Decides.{same_from_decides}
use Rattle.std.proofs.lemmas.Simd.{tops_compared, mask_l-mod, length-zip2}
use lib.Lanes.{zip2, mask_l}
use mir.Syntax.{w8}
use Rattle.costs.specs.Entries.{none_lower}
use Rattle.costs.proofs.counts.Counts.covers.Goals as goal

-- n bits, all set
abbrev all_bits : ℕ → ℕ
all_bits zero = 0
all_bits (suc n) = 1 + 2 * all_bits n

one_bit : (b : Bool) (m f : ℕ) → eqb (cond b 1 0 + 2 * m) (1 + 2 * f) ≡ (b && eqb m f)
one_bit true m f = same_from_decides {P = m ≡ f} (eqb (1 + 2 * m) (1 + 2 * f)) (eqb m f)
    (λ e. let same : 1 + 2 * m ≡ 1 + 2 * f = eqb-true _ _ e in omega arith, λ e. eq-eqb (1 + 2 * m) (1 + 2 * f) (omega arith))
    (eqb-true m f, eq-eqb m f)
one_bit false m f = ne_eqb (0 + 2 * m) (1 + 2 * f) (λ e. omega arith)

each_bit : (xs ys : List ℕ) → length xs ≡ length ys → eqb (mask_l (zip2 leb ys xs)) (all_bits (length xs)) ≡ none_lower xs ys
each_bit [] [] e = refl
each_bit [] (y ∷ ys) e = absurd (omega arith)
each_bit (x ∷ xs) [] e = absurd (omega arith)
each_bit (x ∷ xs) (y ∷ ys) e = one_bit (leb y x) (mask_l (zip2 leb ys xs)) (all_bits (length xs)) ∙ ap (λ t. leb y x && t) (each_bit xs ys (omega arith))

pub returns : goal.returns
returns c =
    let xs = c.args.self.at in
    let ys = c.args.other.at in
    let alike = c.args.self.eight ∙ sym c.args.other.eight in
    let eight : length (zip2 leb ys xs) ≡ 8 = length-zip2 leb ys xs (sym alike) ∙ c.args.other.eight in
    ap (λ l. eqb (mask_l l % 2 ^ 64) 255) (tops_compared w8 leb ys xs)
    ∙ ap (λ n. eqb n 255) (mask_l-mod (zip2 leb ys xs) 64 (omega arith))
    ∙ ap (λ n. eqb (mask_l (zip2 leb ys xs)) (all_bits n)) (sym c.args.self.eight)
    ∙ each_bit xs ys alike

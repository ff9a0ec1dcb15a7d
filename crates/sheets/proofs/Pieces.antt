-- Contents cut into amounts and actions, piece by piece. Assumes nothing.
use Rattle.std.proofs.Common.{◌≡◌, ℕ, zero, suc, ◌+◌, ◌*◌, ◌/◌, ◌<◌, ◌≤◌, List, [], ◌∷◌, length, get_or, take, drop, Some, None, Option, MatchOption, sym, refl, ap, subst, ◌∙◌, mul-le-mul_right, suc-mul, zero-mul, div-mul-le_self, arith}
use Rattle.std.specs.Borrow.{Bor}
use Rattle.std.specs.Option.{option_map}
use Rattle.std.specs.List.{slice_get}
use Rattle.std.proofs.Math.Nat.{le-div_iff_mul-le, div-lt_iff_lt-mul}
use Rattle.std.proofs.lemmas.List.{drop-drop, length-drop}
use Rattle.std.proofs.lemmas.Option.{slice_get_past}
use Rattle.sheets.specs.Fields.{number_of}
use Rattle.sheets.specs.declared.words.Action.{Action}
use Rattle.sheets.specs.Sheets.{cut, amounts_at, actions_at}

pub length_cut : (w n : ℕ) (bs : List ℕ) → length (cut w n bs) ≡ n
length_cut w zero bs = refl
length_cut w (suc n) bs = ap suc (length_cut w n (drop w bs))

pub nth_cut : (w n : ℕ) (bs : List ℕ) (k : ℕ) → k < n → slice_get (cut w n bs) k ≡ Some (take w (drop (k * w) bs))
nth_cut w zero bs k h = absurd (omega arith)
nth_cut w (suc n) bs zero h = rw zero-mul refl
nth_cut w (suc n) bs (suc k) h =
    nth_cut w n (drop w bs) k (omega arith) ∙ ap (λ l. Some (take w l)) (drop-drop (k * w) w bs ∙ ap (λ i. drop i bs) (omega (arith, suc-mul k w)))

-- piece k lies within the content
pub piece_within : (n w k : ℕ) → k < n / w → k * w + w ≤ n
piece_within n w k h =
    let more : suc k ≤ n / w = omega arith in
    omega (arith, div-mul-le_self n w, mul-le-mul_right w more, suc-mul k w)

-- and what lies within it is one of them
piece_below : (n w k : ℕ) → 1 ≤ w → k * w + w ≤ n → k < n / w
piece_below n w k some h = (le-div_iff_mul-le {k = w} {x = suc k} {y = n} (omega arith)).1 (omega (arith, suc-mul k w))

-- past the last piece
pub past_piece : (n w k : ℕ) → 1 ≤ w → n < k * w + w → n / w ≤ k
past_piece n w k some h =
    let below : n / w < suc k = (div-lt_iff_lt-mul {k = w} {x = n} {y = suc k} (omega arith)).1 (omega (arith, suc-mul k w)) in
    omega arith

pub no_piece : (w k : ℕ) (bs : List ℕ) → length bs / w ≤ k → slice_get (amounts_at w bs) k ≡ None
no_piece w k bs h = slice_get_past (amounts_at w bs) k (omega (arith, length_cut w (length bs / w) bs))

-- what is cut out at the place of piece k, if it lies within the content
pub nth_piece : (w k : ℕ) (bs : List ℕ) (o : Option (Bor (List ℕ))) → MatchOption o (length bs / w ≤ k) (λ x. (k * w + w ≤ length bs) × (x.now ≡ take w (drop (k * w) bs))) → 1 ≤ w → option_map (λ a. a.now) o ≡ slice_get (amounts_at w bs) k
nth_piece w k bs None h some = sym (no_piece w k bs h)
nth_piece w k bs (Some x) h some = ap Some h.1 ∙ sym (nth_cut w (length bs / w) bs k (piece_below (length bs) w k some h.0))

-- what `get` gives of the rest from the place of piece k on
pub cut_found : (w k : ℕ) (bs rest : List ℕ) (o : Option (Bor (List ℕ))) → 1 ≤ w → k * w ≤ length bs → rest ≡ drop (k * w) bs → (o ≡ None → length rest < w) → ((x : Bor (List ℕ)) → o ≡ Some x → (w ≤ length rest) × (x.now ≡ take w rest)) → option_map (λ a. a.now) o ≡ slice_get (amounts_at w bs) k
cut_found w k bs rest None some low is none there = nth_piece w k bs None (past_piece (length bs) w k some (let short = none refl in let long = length-drop (k * w) bs in subst (λ l. length l < w → length bs < k * w + w) (sym is) (λ h. omega (arith, long, low)) short)) some
cut_found w k bs rest (Some x) some low is none there =
    let got = there x refl in
    let long = length-drop (k * w) bs in
    nth_piece w k bs (Some x) (subst (λ l. w ≤ length l → k * w + w ≤ length bs) (sym is) (λ h. omega (arith, long, low)) got.0, got.1 ∙ ap (take w) is) some

pub length_actions : (bs : List ℕ) → length (actions_at bs) ≡ length bs / 2
length_actions [] = refl
length_actions (a ∷ []) = refl
length_actions (a ∷ o ∷ rest) = omega (arith, length_actions rest)

pub nth_actions : (bs : List ℕ) (j : ℕ) → j < length bs / 2 → slice_get (actions_at bs) j ≡ Some (record { algorithm = number_of (get_or bs (2 * j) 0); output = number_of (get_or bs (2 * j + 1) 0) })
nth_actions [] j h = absurd (omega arith)
nth_actions (a ∷ []) j h = absurd (omega arith)
nth_actions (a ∷ o ∷ rest) zero h = refl
nth_actions (a ∷ o ∷ rest) (suc j) h =
    let two : 2 * suc j ≡ suc (suc (2 * j)) = omega arith in
    let three : suc (suc (2 * j)) + 1 ≡ suc (suc (2 * j + 1)) = omega arith in
    nth_actions rest j (omega arith) ∙ rw (two, three) refl

-- the action that two bytes stand for
abbrev pub action_of : Bor (List ℕ) → Action
action_of a = record { algorithm = number_of (get_or a.now 0 0); output = number_of (get_or a.now 1 0) }

-- what `chunks_exact` and then `nth` give, by two bytes each
abbrev pub Paired : ℕ → List ℕ → Option (Bor (List ℕ)) → Type 0
Paired j bs o = MatchOption o (length bs / 2 ≤ j) (λ x. (j * 2 + 2 ≤ length bs) × (get_or x.now 0 0 ≡ get_or bs (j * 2) 0) × (get_or x.now 1 0 ≡ get_or bs (j * 2 + 1) 0))

pub nth_action : (j : ℕ) (bs : List ℕ) (o : Option (Bor (List ℕ))) → Paired j bs o → option_map action_of o ≡ slice_get (actions_at bs) j
nth_action j bs None h = sym (slice_get_past (actions_at bs) j (omega (arith, length_actions bs)))
nth_action j bs (Some x) h =
    let twice : j * 2 ≡ 2 * j = omega arith in
    rw (h.1, h.2, twice) (sym (nth_actions bs j (piece_below (length bs) 2 j (omega arith) h.0)))

-- A card in its 128 rows, and the lists that are read off them. Assumes nothing.
use Rattle.std.proofs.Common.{◌≡◌, ℕ, zero, suc, ◌+◌, ◌-◌, ◌*◌, ◌<◌, ◌≤◌, List, [], ◌∷◌, ◌++◌, length, get_or, take, drop, replicate, sym, refl, ap, ◌∙◌, ⊎_elim, arith}
use Rattle.std.specs.List.{flat_map}
use Rattle.std.proofs.lemmas.List.{length-append, length-take-le, length-drop, length-replicate, take-append-le, take_at, take_all, drop_at, drop-drop, take-take, get_or-take, get_or-drop, get_or_past, get_or_append_left, get_or-append_right, get_or-replicate, get_or_default, same_lists}
use Rattle.std.proofs.lemmas.Bool.{cases_lt}
use Rattle.costs.specs.declared.entry.Entry.{Entry}
use Rattle.networks.specs.Rows.{list_at}
use Rattle.library.specs.Tables.{events, lens_of, padded, card_rows}
use Rattle.library.proofs.Parts.{length_part, take_split, part_take}

-- n events from event e on
abbrev from : ℕ → ℕ → List ℕ
from e zero = []
from e (suc n) = e ∷ from (suc e) n

-- lists of 16 rows each, after one another
module _ {X : Type 0} (f : ℕ → List X) (long : (e : ℕ) → length (f e) ≡ 16) where
  pub length_joined : (es : List ℕ) → length (flat_map f es) ≡ 16 * length es
  length_joined [] = refl
  length_joined (e ∷ es) = length-append (f e) (flat_map f es) ∙ omega (arith, long e, length_joined es)

  drop_joined : (n e k : ℕ) → k ≤ n → drop (16 * k) (flat_map f (from e n)) ≡ flat_map f (from (e + k) (n - k))
  drop_joined n e zero below = let p : e + 0 ≡ e = omega arith in let q : n - 0 ≡ n = omega arith in ap (λ x. flat_map f (from x n)) (sym p) ∙ ap (λ x. flat_map f (from (e + 0) x)) (sym q)
  drop_joined zero e (suc k) below = absurd (omega arith)
  drop_joined (suc n) e (suc k) below =
      let p : 16 * suc k ≡ 16 + 16 * k = omega arith in
      let q : suc e + k ≡ e + suc k = omega arith in
      let r : n - k ≡ suc n - suc k = omega arith in
      ap (λ x. drop x (f e ++ flat_map f (from (suc e) n))) p ∙ sym (drop-drop (16 * k) 16 (f e ++ flat_map f (from (suc e) n))) ∙ ap (drop (16 * k)) (drop_at (f e) (flat_map f (from (suc e) n)) 16 (long e))
      ∙ drop_joined n (suc e) k (omega arith) ∙ ap (λ x. flat_map f (from x (n - k))) q ∙ ap (λ x. flat_map f (from (e + suc k) x)) r

  -- the first rows of list e
  pub take_joined : (e l : ℕ) → e < 8 → l ≤ 16 → take l (drop (16 * e) (flat_map f events)) ≡ take l (f e)
  take_joined e l below short =
      let k = 7 - e in
      let q : 8 - e ≡ suc k = omega arith in
      ap (take l) (drop_joined 8 0 e (omega arith) ∙ ap (λ x. flat_map f (from (0 + e) x)) q ∙ ap (λ x. flat_map f (from x (suc k))) (let z : 0 + e ≡ e = omega arith in z))
      ∙ take-append-le l (f e) (flat_map f (from (suc e) k)) (omega (arith, long e))

module _ {X : Type 0} (zero' : X) where
  pub length_padded : (xs : List X) → length (padded zero' xs) ≡ 16
  length_padded xs = length-take-le 16 (xs ++ replicate 16 zero') (omega (arith, length-append xs (replicate 16 zero'), length-replicate 16 zero'))

  pub take_padded : (xs : List X) → length xs ≤ 16 → take (length xs) (padded zero' xs) ≡ xs
  take_padded xs short = take-take (length xs) 16 (xs ++ replicate 16 zero') short ∙ take_at xs (replicate 16 zero') (length xs) refl

  -- 16 rows whose rows past the first l hold the zero entry
  pub padded_rows : (ys : List X) (l : ℕ) → 16 ≤ length ys → l ≤ 16 → ((j : ℕ) → l ≤ j → j < 16 → get_or ys j zero' ≡ zero') → take 16 ys ≡ padded zero' (take l ys)
  padded_rows ys l room short zeros =
      let ll : length (take l ys) ≡ l = length-take-le l ys (omega arith) in
      let l16 : length (take 16 ys) ≡ 16 = length-take-le 16 ys room in
      same_lists (take 16 ys) (padded zero' (take l ys)) (l16 ∙ sym (length_padded (take l ys)))
      (λ k d lt.
      let k16 : k < 16 = omega (arith, l16, lt) in
      get_or-take 16 ys k d k16
      ∙ ⊎_elim
      (λ low. sym (get_or-take l ys k d low) ∙ sym (get_or_append_left (take l ys) (replicate 16 zero') d k (omega (arith, ll, low))))
      (λ high. get_or_default ys k d zero' (omega arith) ∙ zeros k high k16 ∙ sym (get_or-append_right (take l ys) (replicate 16 zero') l k d ll high ∙ get_or-replicate 16 (k - l) zero' d (omega arith)))
      (cases_lt k l)
      ∙ sym (get_or-take 16 (take l ys ++ replicate 16 zero') k d k16))

module _ {M : Type 0} (zero' : Entry M) (card : ℕ → List (Entry M)) where
  pub length_card_rows : length (card_rows zero' card) ≡ 128
  length_card_rows = length_joined (λ e. padded zero' (card e)) (λ e. length_padded zero' (card e)) events

  -- the 16 rows of an event
  pub event_rows : (e : ℕ) → e < 8 → take 16 (drop (16 * e) (card_rows zero' card)) ≡ padded zero' (card e)
  event_rows e below = take_joined (λ e. padded zero' (card e)) (λ e. length_padded zero' (card e)) e 16 below (omega arith) ∙ take_all 16 (padded zero' (card e)) (omega (arith, length_padded zero' (card e)))

  -- its list
  pub event_list : (e : ℕ) → e < 8 → length (card e) ≤ 16 → take (length (card e)) (drop (16 * e) (card_rows zero' card)) ≡ card e
  event_list e below short = take_joined (λ e. padded zero' (card e)) (λ e. length_padded zero' (card e)) e (length (card e)) below short ∙ take_padded zero' (card e) short

  pub get_or_lens_of : (e : ℕ) → e < 8 → get_or (lens_of card) e 0 ≡ length (card e)
  get_or_lens_of zero below = refl
  get_or_lens_of (suc zero) below = refl
  get_or_lens_of (suc (suc zero)) below = refl
  get_or_lens_of (suc (suc (suc zero))) below = refl
  get_or_lens_of (suc (suc (suc (suc zero)))) below = refl
  get_or_lens_of (suc (suc (suc (suc (suc zero))))) below = refl
  get_or_lens_of (suc (suc (suc (suc (suc (suc zero)))))) below = refl
  get_or_lens_of (suc (suc (suc (suc (suc (suc (suc zero))))))) below = refl
  get_or_lens_of (suc (suc (suc (suc (suc (suc (suc (suc e)))))))) below = absurd (omega arith)

  -- the list of any event, where numbers past the eighth have none, read off rows that begin with the card's
  pub list_off : (rows : List (Entry M)) → take 128 rows ≡ card_rows zero' card → ((e : ℕ) → length (card e) ≤ 16) → ((e : ℕ) → 8 ≤ e → card e ≡ []) → (e : ℕ) → list_at rows (lens_of card) e ≡ card e
  list_off rows is short none e =
      ⊎_elim
      (λ low.
      ap (λ l. take l (drop (16 * e) rows)) (get_or_lens_of e low) ∙ sym (part_take rows (16 * e) (length (card e)) 128 (omega (arith, short e)))
      ∙ ap (λ r. take (length (card e)) (drop (16 * e) r)) is ∙ event_list e low (short e))
      (λ high. ap (λ l. take l (drop (16 * e) rows)) (get_or_past (lens_of card) e 0 high) ∙ sym (none e high))
      (cases_lt e 8)

-- what the working left in the first 128 rows is the card in its rows
module _ {M : Type 0} (zero' : Entry M) (rows : List (Entry M)) (lens : List ℕ) (room : 128 ≤ length rows) (short : (e : ℕ) → get_or lens e 0 ≤ 16)
    (zeros : (e j : ℕ) → e < 8 → get_or lens e 0 ≤ j → j < 16 → get_or rows (16 * e + j) zero' ≡ zero') where
  part_rows : (e : ℕ) → e < 8 → take 16 (drop (16 * e) rows) ≡ padded zero' (list_at rows lens e)
  part_rows e below =
      padded_rows zero' (drop (16 * e) rows) (get_or lens e 0) (simp length-drop (omega arith)) (short e) (λ j low high. get_or-drop (16 * e) rows j zero' ∙ zeros e j below low high)

  parts : (n e : ℕ) → e + n ≤ 8 → take (16 * n) (drop (16 * e) rows) ≡ flat_map (λ k. padded zero' (list_at rows lens k)) (from e n)
  parts zero e within = refl
  parts (suc n) e within =
      let p : 16 * suc n ≡ 16 + 16 * n = omega arith in
      let q : 16 * e + 16 ≡ 16 * suc e = omega arith in
      ap (λ k. take k (drop (16 * e) rows)) p ∙ take_split 16 (16 * n) (drop (16 * e) rows)
      ∙ ap (λ l. l ++ take (16 * n) (drop 16 (drop (16 * e) rows))) (part_rows e (omega arith))
      ∙ ap (λ l. padded zero' (list_at rows lens e) ++ l) (ap (take (16 * n)) (drop-drop 16 (16 * e) rows ∙ ap (λ k. drop k rows) q) ∙ parts n (suc e) (omega arith))

  pub rows_of_card : take 128 rows ≡ card_rows zero' (list_at rows lens)
  rows_of_card = parts 8 0 (omega arith)

  length_list : (e : ℕ) → e < 8 → length (list_at rows lens e) ≡ get_or lens e 0
  length_list e below = length_part rows (16 * e) (get_or lens e 0) (omega (arith, short e))

  pub lens_of_card : length lens ≡ 8 → lens ≡ lens_of (list_at rows lens)
  lens_of_card eight =
      same_lists lens (lens_of (list_at rows lens)) eight
      (λ k d lt. get_or_default lens k d 0 lt ∙ sym (length_list k (omega arith)) ∙ sym (get_or_lens_of zero' (list_at rows lens) k (omega arith)) ∙ get_or_default (lens_of (list_at rows lens)) k 0 d (omega arith))

-- A checked sheet has the form: each limit from the rule that let its fields follow one another. Assumes nothing.
use Rattle.std.proofs.Common.{◌≡◌, ℕ, ◌+◌, ◌*◌, ◌/◌, ◌<◌, ◌≤◌, true, false, cond, ◌&&◌, eqb, ltb, leb, List, [], ◌∷◌, map, length, get_or, take, drop, Some, sym, refl, ap, ◌∙◌, subst, ⊎_elim, arith}
use native.Mathlib.Nat.{div-le_of_le-mul}
use Rattle.std.specs.List.{slice_get}
use Rattle.std.proofs.lemmas.List.{length-map, get_or-map, get_or_past, length-drop, length-take-le}
use Rattle.std.proofs.lemmas.Option.{slice_get-get_or}
use Rattle.std.proofs.lemmas.Bool.{cases_Bool, cases_lt, cond-true, cond-false, and_parts, eqb-true, ltb-true, leb-true, lt-ltb}
use Rattle.sheets.specs.Frames.{Raw}
use Rattle.sheets.specs.Form.{served}
use Rattle.sheets.specs.Grammar.{byte, count, entries, most_of, first_is, room, belongs_to, fits_of, highest, lower, follows}
use Rattle.sheets.specs.Lawful.{Accepts, nothing, one_more}
use Rattle.sheets.specs.Sheets.{Served, tagged, first_of, no_field, amounts_at, actions_at, served_at}
use Rattle.sheets.proofs.Follow.{follows_decides}
use Rattle.sheets.proofs.Pieces.{length_cut, nth_cut, piece_within, length_actions}
use Rattle.sheets.proofs.Reading.{fitting, Headed, same_some}
use Rattle.sheets.proofs.Rules.{count_push, entries_push}

pub length_tagged : (t : ℕ) (fs : List Raw) → length (tagged t fs) ≡ count t fs
length_tagged t [] = refl
length_tagged t (f ∷ fs) =
    ⊎_elim
    (λ same. rw same (omega (arith, length_tagged t fs)))
    (λ other. rw other (omega (arith, length_tagged t fs)))
    (cases_Bool (eqb f.tag t))

pub served_entries : (w e : ℕ) (fs : List Raw) → served e (map (served_at w) (tagged 5 fs)) ≡ entries e fs
served_entries w e [] = refl
served_entries w e (f ∷ fs) =
    ⊎_elim
    (λ same. rw same (ap (λ n. cond (eqb (byte f 0) e) 1 0 + n) (served_entries w e fs)))
    (λ other. rw other (omega (arith, served_entries w e fs)))
    (cases_Bool (eqb f.tag 5))

-- not too many of a tag came before
room_of : (w : ℕ) (head : Raw) (fs : List Raw) (f : Raw) → follows w head fs f ≡ true → room (byte head 1) fs f ≡ true
room_of w head fs f ok = (and_parts (belongs_to (byte head 0) f.tag && fits_of w (byte head 2) f.tag (length f.content) && leb (highest fs) f.tag && lower f.tag fs) (room (byte head 1) fs f) ok).1

pub few_of : {w : ℕ} {head : Raw} {fs : List Raw} → Accepts w head fs → (t : ℕ) → (t ≡ 5 → ⊥) → count t fs ≤ most_of t
few_of nothing t not5 = omega arith
few_of {w} {head} (one_more fs f acc ok) t not5 =
    ⊎_elim
    (λ same.
    let is : f.tag ≡ t = eqb-true f.tag t same in
    let other : eqb f.tag 5 ≡ false = not_five f.tag (λ e. not5 (sym is ∙ e)) in
    let lt : ltb (count f.tag fs) (most_of f.tag) ≡ true = sym (cond-false _ _ _ other) ∙ room_of w head fs f ((follows_decides w head fs f).1 ok) in
    let below : count t fs < most_of t = subst (λ n. count n fs < most_of n) is (ltb-true _ _ lt) in
    omega (arith, count_push t fs f, below, cond-true {A = ℕ} (eqb f.tag t) 1 0 same))
    (λ other.
    omega (arith, count_push t fs f, few_of acc t not5, cond-false {A = ℕ} (eqb f.tag t) 1 0 other))
    (cases_Bool (eqb f.tag t))
  where
    not_five : (n : ℕ) → (n ≡ 5 → ⊥) → eqb n 5 ≡ false
    not_five n ne = ⊎_elim (λ same. absurd (ne (eqb-true n 5 same))) (λ other. other) (cases_Bool (eqb n 5))

pub few_for : {w : ℕ} {head : Raw} {fs : List Raw} → Accepts w head fs → (e : ℕ) → e < byte head 1 → entries e fs ≤ 16
few_for nothing e lt = omega arith
few_for {w} {head} (one_more fs f acc ok) e lt =
    ⊎_elim
    (λ same.
    let p = and_parts (eqb f.tag 5) (eqb (byte f 0) e) same in
    let is : byte f 0 ≡ e = eqb-true (byte f 0) e p.1 in
    let first : first_is f.content (λ e. cond (ltb e (byte head 1)) (ltb (entries e fs) 16) true) ≡ true = sym (cond-true _ _ _ p.0) ∙ room_of w head fs f ((follows_decides w head fs f).1 ok) in
    let below : entries e fs < 16 = first_room f.content is first in
    omega (arith, entries_push e fs f, below, cond-true {A = ℕ} (eqb f.tag 5 && eqb (byte f 0) e) 1 0 same))
    (λ other.
    omega (arith, entries_push e fs f, few_for acc e lt, cond-false {A = ℕ} (eqb f.tag 5 && eqb (byte f 0) e) 1 0 other))
    (cases_Bool (eqb f.tag 5 && eqb (byte f 0) e))
  where
    first_room : (c : List ℕ) → get_or c 0 0 ≡ e → first_is c (λ e. cond (ltb e (byte head 1)) (ltb (entries e fs) 16) true) ≡ true → entries e fs < 16
    first_room [] is h = absurd cc
    first_room (b ∷ c) is h = ltb-true _ _ (sym (cond-true (ltb e (byte head 1)) (ltb (entries e fs) 16) true (lt-ltb e (byte head 1) lt)) ∙ subst (λ b. cond (ltb b (byte head 1)) (ltb (entries b fs) 16) true ≡ true) is h)

-- how many amounts, each as wide as it should be
pub amounts_long : (w : ℕ) (c : List ℕ) → length c ≤ 16 * w → length (amounts_at w c) ≤ 16
amounts_long w c le =
    let less : length c ≤ w * 16 = omega arith in
    omega (arith, length_cut w (length c / w) c, div-le_of_le-mul w less)

pub amounts_wide : (w : ℕ) (c : List ℕ) (k : ℕ) → k < length (amounts_at w c) → length (get_or (amounts_at w c) k []) ≡ w
amounts_wide w c k lt =
    let lt' : k < length c / w = omega (arith, length_cut w (length c / w) c) in
    let is : get_or (amounts_at w c) k [] ≡ take w (drop (k * w) c) = same_some _ _ (sym (slice_get-get_or (amounts_at w c) k [] lt) ∙ nth_cut w (length c / w) c k lt') in
    let room : w ≤ length (drop (k * w) c) = omega (arith, length-drop (k * w) c, piece_within (length c) w k lt') in
    ap length is ∙ length-take-le w (drop (k * w) c) room

module _ (w : ℕ) (all : List Raw) (h : Headed w all) where
  pub amounts_fit : length (first_of (tagged 2 all)).content ≤ 16 * w
  amounts_fit = of_list (tagged 2 all) (λ f is. leb-true _ _ (and_parts _ _ (fitting w all h 2 (λ e. omega arith) 0 f is)).0) where
    of_list : (l : List Raw) → ((f : Raw) → slice_get l 0 ≡ Some f → length f.content ≤ 16 * w) → length (first_of l).content ≤ 16 * w
    of_list [] k = omega arith
    of_list (f ∷ l) k = k f refl

  pub actions_few : (k : ℕ) → length (get_or (map (λ f. actions_at f.content) (tagged 3 all)) k []) ≤ 4
  actions_few k =
      ⊎_elim
      (λ lt.
      let lt' : k < length (tagged 3 all) = omega (arith, length-map (tagged 3 all) (λ f. actions_at f.content)) in
      let f = get_or (tagged 3 all) k no_field in
      let le : length f.content ≤ 8 = leb-true _ _ (and_parts _ _ (fitting w all h 3 (λ e. omega arith) k f (slice_get-get_or (tagged 3 all) k no_field lt'))).0 in
      let is = get_or-map (λ f. actions_at f.content) (tagged 3 all) k no_field [] lt' in
      omega (arith, ap length is, length_actions f.content))
      (λ ge. omega (arith, ap length (get_or_past (map (λ f. actions_at f.content) (tagged 3 all)) k [] ge)))
      (cases_lt k (length (map (λ f. actions_at f.content) (tagged 3 all))))

  pub entries_fit : (k : ℕ) (x : Served) → k < length (map (served_at w) (tagged 5 all)) → (length (get_or (map (served_at w) (tagged 5 all)) k x).amount ≡ w) × (length (get_or (map (served_at w) (tagged 5 all)) k x).counts ≡ byte h.head 2)
  entries_fit k x lt =
      let lt' : k < length (tagged 5 all) = omega (arith, length-map (tagged 5 all) (served_at w)) in
      let f = get_or (tagged 5 all) k no_field in
      let n : length f.content ≡ 1 + w + byte h.head 2 = eqb-true _ _ (fitting w all h 5 (λ e. omega arith) k f (slice_get-get_or (tagged 5 all) k no_field lt')) in
      let is = get_or-map (served_at w) (tagged 5 all) k no_field x lt' in
      let room : w ≤ length (drop 1 f.content) = omega (arith, length-drop 1 f.content) in (
        ap (λ s. length s.amount) is ∙ length-take-le w (drop 1 f.content) room,
        ap (λ s. length s.counts) is ∙ length-drop (1 + w) f.content ∙ omega arith,
      )

-- What the fields of a checked sheet say is what the sheet's value holds. Assumes nothing.
use Rattle.std.proofs.Common.{◌≡◌, ℕ, zero, suc, ◌+◌, ◌≤◌, true, ◌&&◌, eqb, leb, List, [], ◌∷◌, map, length, get_or, take, drop, is_ok, Some, Option, unwrap_or, sym, refl, ap, ◌∙◌, ⊎_elim, arith}
use Rattle.std.specs.Option.{option_map, option_flatten}
use Rattle.std.specs.List.{slice_get}
use Rattle.std.proofs.lemmas.List.{length-map}
use Rattle.std.proofs.lemmas.Option.{slice_get-map}
use Rattle.std.proofs.lemmas.Bool.{cases_eq, cond-true, and_parts, eqb-true, leb-true, le-ltb, false≢true}
use Rattle.sheets.specs.Frames.{Raw, fields}
use Rattle.sheets.specs.Fields.{field_of, kind_of, number_of, end_of, interface_of, transition_of, entry_of, instance_of, connection_of}
use Rattle.sheets.specs.Grammar.{byte, interface_ok, heads_of}
use Rattle.sheets.specs.Reading.{said_at, as_interface, as_amounts, as_actions, as_transition, as_entry, as_instance, as_connection}
use Rattle.sheets.specs.Refusals.{check_of}
use Rattle.sheets.specs.Sheets.{tagged, placed, first_of, sheet_of, count_of, tag_of, offsets_of, actions_at, interface_at, transition_at, served_at, connection_at}
use Rattle.sheets.specs.declared.words.Kind.TheVariants.{Basic}
use Rattle.sheets.specs.declared.words.Item.{Item}
use Rattle.sheets.specs.declared.words.Item.TheVariants.{State, Transition, Entry, Instance, Connection}
use Rattle.sheets.proofs.Reading.{map_placed, tag_at, no_fault, Headed, headed, fitting, read_as}

transition_read : (f : Raw) → f.tag ≡ 4 → length f.content ≡ 3 → as_transition (field_of f) ≡ Some (transition_at f)
transition_read f e n = rw e (three f.content n) where
  three : (c : List ℕ) → length c ≡ 3 → as_transition (transition_of c) ≡ Some (record { source = get_or c 0 0; destination = get_or c 1 0; event = number_of (get_or c 2 0) })
  three [] n = absurd (omega arith)
  three (x ∷ []) n = absurd (omega arith)
  three (x ∷ y ∷ []) n = absurd (omega arith)
  three (x ∷ y ∷ z ∷ []) n = refl
  three (x ∷ y ∷ z ∷ a ∷ c) n = absurd (omega arith)

instance_read : (f : Raw) → f.tag ≡ 6 → length f.content ≡ 1 → as_instance (field_of f) ≡ Some (byte f 0)
instance_read f e n = rw e (one f.content n) where
  one : (c : List ℕ) → length c ≡ 1 → as_instance (instance_of c) ≡ Some (get_or c 0 0)
  one [] n = absurd (omega arith)
  one (x ∷ []) n = refl
  one (x ∷ y ∷ c) n = absurd (omega arith)

connection_read : (f : Raw) → f.tag ≡ 7 → length f.content ≡ 4 → as_connection (field_of f) ≡ Some (connection_at f)
connection_read f e n = rw e (four f.content n) where
  four : (c : List ℕ) → length c ≡ 4 → as_connection (connection_of c) ≡ Some (record { source = end_of (get_or c 0 0) (get_or c 1 0); target = end_of (get_or c 2 0) (get_or c 3 0) })
  four [] n = absurd (omega arith)
  four (x ∷ []) n = absurd (omega arith)
  four (x ∷ y ∷ []) n = absurd (omega arith)
  four (x ∷ y ∷ z ∷ []) n = absurd (omega arith)
  four (x ∷ y ∷ z ∷ a ∷ []) n = refl
  four (x ∷ y ∷ z ∷ a ∷ b ∷ c) n = absurd (omega arith)

entry_read : (w o : ℕ) (f : Raw) → f.tag ≡ 5 → length f.content ≡ 1 + w + o → as_entry w (field_of f) ≡ Some (served_at w f)
entry_read w o f e n = rw e (split f.content n) where
  split : (c : List ℕ) → length c ≡ 1 + w + o → as_entry w (entry_of c) ≡ Some (record { event = get_or c 0 0; amount = take w (drop 1 c); counts = drop (1 + w) c })
  split [] n = absurd (omega arith)
  split (x ∷ c) n =
      let one : 1 + w ≡ suc w = omega arith in
      rw (le-ltb (length c) w (omega arith), one) refl

interface_read : (f : Raw) → heads_of f ≡ true → as_interface (field_of f) ≡ Some (interface_at f)
interface_read f ok = rw (eqb-true f.tag 1 (and_parts _ _ ok).0) (said f.content (and_parts _ _ ok).1) where
  known : (k i o : ℕ) → 1 ≤ k → k ≤ 3 → as_interface (interface_of (k ∷ i ∷ o ∷ [])) ≡ Some (record { kind = unwrap_or (kind_of k) Basic; inputs = i; outputs = o })
  known k i o low high =
      ⊎_elim
      (λ one. rw one refl)
      (λ not1. ⊎_elim (λ two. rw two refl) (λ not2. let three : k ≡ 3 = omega arith in rw three refl) (cases_eq k 2))
      (cases_eq k 1)

  said : (c : List ℕ) → interface_ok c ≡ true → as_interface (interface_of c) ≡ Some (record { kind = unwrap_or (kind_of (get_or c 0 0)) Basic; inputs = get_or c 1 0; outputs = get_or c 2 0 })
  said [] ok = absurd (false≢true ok)
  said (k ∷ []) ok = absurd (false≢true ok)
  said (k ∷ i ∷ []) ok = absurd (false≢true ok)
  said (k ∷ i ∷ o ∷ []) ok =
      let four = (and_parts (leb 1 k && leb k 3 && leb 1 i && leb i 8) (leb o 8) ok).0 in
      let two = and_parts (leb 1 k) (leb k 3) (and_parts (leb 1 k && leb k 3) (leb 1 i) (and_parts _ (leb i 8) four).0).0 in
      known k i o (leb-true 1 k two.0) (leb-true k 3 two.1)
  said (k ∷ i ∷ o ∷ x ∷ c) ok = absurd (false≢true ok)

module _ (w : ℕ) (bs : List ℕ) (ok : is_ok (check_of w bs) ≡ true) where
  sound : Headed w (fields bs)
  sound = headed w (fields bs) (no_fault w bs ok)

  pub face_read : as_interface (said_at 1 0 bs) ≡ Some (sheet_of w bs).face
  unfolding sheet_of
  face_read =
      let one : eqb sound.head.tag 1 ≡ true = (and_parts (eqb sound.head.tag 1) (interface_ok sound.head.content) sound.heads).0 in
      let there = cond-true (eqb sound.head.tag 1) (sound.head ∷ tagged 1 sound.fs) (tagged 1 sound.fs) one in
      let first : slice_get (tagged 1 (fields bs)) 0 ≡ Some sound.head = ap (λ l. slice_get (tagged 1 l) 0) sound.is ∙ ap (λ l. slice_get l 0) there in
      ap (λ o. as_interface (option_flatten (option_map field_of o))) first ∙ interface_read sound.head sound.heads ∙ ap (λ l. Some (interface_at (first_of l))) (sym sound.is)

  pub transitions_read : (k : ℕ) → as_transition (said_at 4 k bs) ≡ slice_get (sheet_of w bs).transitions k
  unfolding sheet_of
  transitions_read k =
      read_as as_transition transition_at refl (slice_get (tagged 4 (fields bs)) k)
      (λ f is. transition_read f (tag_at 4 (fields bs) k f is) (eqb-true _ _ (fitting w (fields bs) sound 4 (λ e. omega arith) k f is)))
      ∙ sym (slice_get-map transition_at (tagged 4 (fields bs)) k)

  pub entries_read : (k : ℕ) → as_entry w (said_at 5 k bs) ≡ slice_get (sheet_of w bs).entries k
  unfolding sheet_of
  entries_read k =
      read_as (as_entry w) (served_at w) refl (slice_get (tagged 5 (fields bs)) k)
      (λ f is. entry_read w (byte sound.head 2) f (tag_at 5 (fields bs) k f is) (eqb-true _ _ (fitting w (fields bs) sound 5 (λ e. omega arith) k f is)))
      ∙ sym (slice_get-map (served_at w) (tagged 5 (fields bs)) k)

  pub instances_read : (k : ℕ) → as_instance (said_at 6 k bs) ≡ slice_get (sheet_of w bs).instances k
  unfolding sheet_of
  instances_read k =
      read_as as_instance (λ f. byte f 0) refl (slice_get (tagged 6 (fields bs)) k)
      (λ f is. instance_read f (tag_at 6 (fields bs) k f is) (eqb-true _ _ (fitting w (fields bs) sound 6 (λ e. omega arith) k f is)))
      ∙ sym (slice_get-map (λ f. byte f 0) (tagged 6 (fields bs)) k)

  pub connections_read : (k : ℕ) → as_connection (said_at 7 k bs) ≡ slice_get (sheet_of w bs).connections k
  unfolding sheet_of
  connections_read k =
      read_as as_connection connection_at refl (slice_get (tagged 7 (fields bs)) k)
      (λ f is. connection_read f (tag_at 7 (fields bs) k f is) (eqb-true _ _ (fitting w (fields bs) sound 7 (λ e. omega arith) k f is)))
      ∙ sym (slice_get-map connection_at (tagged 7 (fields bs)) k)

-- the content of the amounts' field, empty where there is none
pub amounts_content : (bs : List ℕ) → as_amounts (said_at 2 0 bs) ≡ (first_of (tagged 2 (fields bs))).content
amounts_content bs = of_list (tagged 2 (fields bs)) (λ f is. tag_at 2 (fields bs) 0 f is) where
  of_list : (l : List Raw) → ((f : Raw) → slice_get l 0 ≡ Some f → f.tag ≡ 2) → as_amounts (option_flatten (option_map field_of (slice_get l 0))) ≡ (first_of l).content
  of_list [] h = refl
  of_list (f ∷ l) h = rw (h f refl) refl

-- the actions of state k, none where there is no such state
pub actions_read : (w : ℕ) (bs : List ℕ) (k : ℕ) → actions_at (as_actions (said_at 3 k bs)) ≡ get_or (sheet_of w bs).states k []
unfolding sheet_of
actions_read w bs k = of_list (tagged 3 (fields bs)) k (λ f is. tag_at 3 (fields bs) k f is) where
  of_list : (l : List Raw) (k : ℕ) → ((f : Raw) → slice_get l k ≡ Some f → f.tag ≡ 3) → actions_at (as_actions (option_flatten (option_map field_of (slice_get l k)))) ≡ get_or (map (λ f. actions_at f.content) l) k []
  of_list [] k h = refl
  of_list (f ∷ l) zero h = rw (h f refl) refl
  of_list (f ∷ l) (suc k) h = of_list l k h

pub length_tagged : (w : ℕ) (i : Item) (bs : List ℕ) → length (tagged (tag_of i) (fields bs)) ≡ count_of i (sheet_of w bs)
unfolding sheet_of
length_tagged w State bs = sym (length-map (tagged 3 (fields bs)) (λ f. actions_at f.content))
length_tagged w Transition bs = sym (length-map (tagged 4 (fields bs)) transition_at)
length_tagged w Entry bs = sym (length-map (tagged 5 (fields bs)) (served_at w))
length_tagged w Instance bs = sym (length-map (tagged 6 (fields bs)) (λ f. byte f 0))
length_tagged w Connection bs = sym (length-map (tagged 7 (fields bs)) connection_at)

-- each item has an offset
pub length_offsets : (w : ℕ) (i : Item) (bs : List ℕ) → length (offsets_of i bs) ≡ count_of i (sheet_of w bs)
unfolding offsets_of
length_offsets w i bs =
    length-map (placed (tag_of i) 0 (fields bs)) (λ p. p.0)
    ∙ sym (length-map (placed (tag_of i) 0 (fields bs)) (λ p. p.1)) ∙ ap length (map_placed (tag_of i) 0 (fields bs)) ∙ length_tagged w i bs

pub offsets_read : (i : Item) (bs : List ℕ) (k : ℕ) (o : Option (ℕ × Raw)) → o ≡ slice_get (placed (tag_of i) 0 (fields bs)) k → option_map (λ p. p.0) o ≡ slice_get (offsets_of i bs) k
unfolding offsets_of
offsets_read i bs k o e = ap (option_map (λ p. p.0)) e ∙ sym (slice_get-map (λ p. p.0) (placed (tag_of i) 0 (fields bs)) k)

-- The form that every checked sheet has: the limits of each kind of block; and an amount replaced within it. Assumes nothing.
use Rattle.std.specs.Prelude.{◌≡◌, ℕ, ◌+◌, ◌<◌, ◌≤◌, true, cond, List, [], ◌∷◌, length, get_or, is_ok, ◌==◌, slice_index_or, slice_set}
use Rattle.sheets.specs.Refusals.{framing_of, check_of}
use Rattle.sheets.specs.Sheets.{Sheet, Served, sheet_of, replaced}
use Rattle.sheets.specs.declared.words.Kind.TheVariants.{Basic, Service, Composite}

-- how many entries an event has
abbrev pub served : ℕ → List Served → ℕ
served e [] = 0
served e (x ∷ xs) = cond (x.event == e) 1 0 + served e xs

-- the limits of a sheet whose amounts take w bytes each
pub record Form (w : ℕ) (s : Sheet) : Type 0 where
  pub some_inputs : 1 ≤ s.face.inputs
  pub few_inputs : s.face.inputs ≤ 8
  pub few_outputs : s.face.outputs ≤ 8
  pub few_amounts : length s.amounts ≤ 16
  pub wide_amounts : (k : ℕ) → k < length s.amounts → length (slice_index_or s.amounts k []) ≡ w
  pub few_states : length s.states ≤ 32
  pub few_actions : (k : ℕ) → length (slice_index_or s.states k []) ≤ 4
  pub few_transitions : length s.transitions ≤ 64
  pub wide_entries : (k : ℕ) (x : Served) → k < length s.entries → length (get_or s.entries k x).amount ≡ w
  pub counted_entries : (k : ℕ) (x : Served) → k < length s.entries → length (get_or s.entries k x).counts ≡ s.face.outputs
  pub few_entries : (e : ℕ) → e < s.face.inputs → served e s.entries ≤ 16
  pub few_instances : length s.instances ≤ 16
  pub few_connections : length s.connections ≤ 64
  pub some_states : s.face.kind ≡ Basic → 1 ≤ length s.states
  pub some_entries : s.face.kind ≡ Service → (e : ℕ) → e < s.face.inputs → 1 ≤ served e s.entries
  pub some_instances : s.face.kind ≡ Composite → 1 ≤ length s.instances

-- the sheet with other bytes for the amount of algorithm k
abbrev pub with_amount : Sheet → ℕ → List ℕ → Sheet
with_amount s k new =
    record {
      face = s.face;
      amounts = slice_set s.amounts k new;
      states = s.states;
      transitions = s.transitions;
      entries = s.entries;
      instances = s.instances;
      connections = s.connections;
    }

-- The amount of algorithm k stands at p: other bytes of the same width, written there, keep the sheet checked and change that amount alone.
pub record AmountAt (w : ℕ) (bs : List ℕ) (k p : ℕ) : Type 0 where
  pub within : p + w ≤ length bs
  pub framed : (new : List ℕ) → length new ≡ w → is_ok (framing_of (replaced bs p new)) ≡ true
  pub right : (new : List ℕ) → length new ≡ w → is_ok (check_of w (replaced bs p new)) ≡ true
  pub says : (new : List ℕ) → length new ≡ w → sheet_of w (replaced bs p new) ≡ with_amount (sheet_of w bs) k new

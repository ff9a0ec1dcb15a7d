-- What the calls above promise, from what those below promise. Assumes nothing.
use Rattle.std.proofs.Common.{◌≡◌, ℕ, ◌+◌, ◌*◌, ◌/◌, ◌%◌, List, length, take, Some, None, Option, Ok, Err, Result, refl, ap, ◌∙◌, arith, MatchResult}
use Rattle.std.specs.Option.{ok_or}
use Rattle.std.specs.List.{ContainsAt as Has, AllByRecursion}
use Rattle.std.proofs.ByRecursion.{All-weaker}
use Rattle.costs.specs.Amounts.{Amounts}
use Rattle.costs.specs.declared.entry.Entry.{Entry}
use Rattle.order.specs.Order.{Below, Complete, Unworkable}
use Rattle.order.proofs.Circles.{endless}
use Rattle.order.proofs.Orders.{complete_as, unworkable_as}
use Rattle.sheets.specs.declared.words.Connection.{Connection}
use Rattle.sheets.specs.declared.words.End.{End}
use Rattle.sheets.specs.declared.words.End.TheVariants.{Outside, Inside}
use Rattle.networks.specs.declared.beneath.Face.{Face}
use Rattle.sheets.proofs.Forms.{form_of}
use Rattle.sheets.specs.Sheets.{Sheet}
use Rattle.sheets.specs.declared.opened.Checked.{Checked}
use Rattle.sheets.specs.declared.words.Interface.{Interface}
use Rattle.networks.specs.Networks.{Network, says, network_of, Named, Fit, Given, Node, Target, Leads, WorkedIn, CircleAt, targets}
use Rattle.networks.specs.Cards.{Formed, Worked}
use Rattle.networks.specs.Rows.{Lent, Filled, table_at}
use Rattle.networks.proofs.Places.{source_targets, place_node, at_place}
use Rattle.costs.proofs.Interface.{length_list_at}

-- a forming that stopped is refused by what `ok_or` was given
pub refused_long : {X E : Type 0} (o : Option X) (long refusal : E) → Path (Result X E) (Err refusal) (ok_or o long) → refusal ≡ long
refused_long None long refusal is = cc
refused_long (Some x) long refusal is = cc

-- what `map_err` was given, where it answers an error, and where it answers none
pub mapped_err : {T E D : Type 0} (Q : E → Type 0) (r : Result T E) (d : D) → MatchResult r (λ x. Path (Result T D) (Err d) (Ok x)) Q → (e : E) × (r ≡ Err e) × Q e
mapped_err {T} {E} {D} Q (Ok x) d h = let clash : Path (Result T D) (Err d) (Ok x) = h in absurd cc
mapped_err Q (Err e) d h = (e, refl, h)

pub mapped_ok : {T E : Type 0} (D : Type 0) (Q : E → Type 0) (r : Result T E) (t : T) → MatchResult r (λ x. Path (Result T D) (Ok t) (Ok x)) Q → ((e : E) → Q e → ⊥) → r ≡ Ok t
mapped_ok {T} {E} D Q (Ok x) t h none = let same : Path (Result T D) (Ok t) (Ok x) = h in cc
mapped_ok D Q (Err e) t h none = absurd (none e h)

module _ {M : Type 0} (net : Network) (card : ℕ → ℕ → List (Entry M)) where
  to : (k : ℕ) → Below (8 * net.instances) (Node net) k → Node net k
  to k h = h.1

  back : (k : ℕ) → Node net k → Below (8 * net.instances) (Node net) k
  back k h = (omega (arith, h.0), h)

  pub complete_nodes : (ws : List ℕ) → Complete (Below (8 * net.instances) (Node net)) (Leads net card) ws → WorkedIn net card ws
  complete_nodes = complete_as (Leads net card) to back

  pub circle_nodes : (s : ℕ) → Unworkable (Below (8 * net.instances) (Node net)) (Leads net card) s → CircleAt net card s
  circle_nodes s h = let u = unworkable_as (Leads net card) to back s h in record { unworkable = u; endless = endless s u }

-- once all places are worked, every target has a list
module _ {M : Type 0} (ops : Amounts M) (gives : List (Entry M) → List (Entry M) → Type 0) (net : Network) (card : ℕ → ℕ → List (Entry M)) (given : Given net card) (rows : List (Entry M)) (lens : List ℕ) (lent : Lent rows lens) where
  pub places_worked : (ws : List ℕ) → WorkedIn net card ws → ((m : ℕ) → Has ws m → Formed ops gives net card (table_at rows lens) (m / 8) (m % 8)) → Worked ops gives net card (table_at rows lens)
  places_worked ws complete formed = record {
    ws = ws;
    complete = complete;
    places = λ i f place. at_place net given.fit.narrow i f place (Formed ops gives net card (table_at rows lens)) (formed (8 * i + f) (complete.all (8 * i + f) (place_node net given.fit.narrow i f place)));
  }

  pub all_filled : Worked ops gives net card (table_at rows lens) → (e : ℕ) → AllByRecursion (Filled lens) (targets net.connections (Outside e))
  all_filled worked e = All-weaker _ _ one (targets net.connections (Outside e)) (source_targets net given.named (Outside e))
    where
      one : (t : End) → Target net t → Filled lens t
      one (Outside p) target = omega (arith, target, given.outputs)
      one (Inside j h) target = omega (arith, (worked.places j h target).sized.0, length_list_at rows lens (8 * j + h) lent)

-- a composite by its parts
abbrev network : ℕ → ℕ → ℕ → (ℕ → Face) → List Connection → Network
network a b n faces cs = record { inputs = a; outputs = b; instances = n; faces = faces; connections = cs }

-- what was read off a sheet is what it says
pub network_read : (sheet : Sheet) (face : Interface) (n k : ℕ) (faces : ℕ → Face) (wires : List Connection) → face ≡ sheet.face → n ≡ length sheet.instances → k ≡ length sheet.connections → take (length sheet.connections) wires ≡ sheet.connections
    → network face.inputs face.outputs n faces (take k wires) ≡ network_of sheet faces
network_read sheet face n k faces wires p q r s =
    ap (λ (i : Interface). network i.inputs i.outputs n faces (take k wires)) p ∙ ap (λ x. network sheet.face.inputs sheet.face.outputs x faces (take k wires)) q
    ∙ ap (network sheet.face.inputs sheet.face.outputs (length sheet.instances) faces) (ap (λ x. take x wires) r ∙ s)

-- what a checked sheet gives with the check of its names and the limits beneath
pub sheet_given : {M : Type 0} (sheet : Checked) (faces : ℕ → Face) (card : ℕ → ℕ → List (Entry M)) → Named (network_of (says sheet) faces) → Fit (network_of (says sheet) faces) card → Given (network_of (says sheet) faces) card
sheet_given sheet faces card named fit =
    let form = form_of sheet.width.bytes sheet.bytes.now sheet.right in
    record { named = named; fit = fit; instances = form.few_instances; inputs = form.few_inputs; outputs = form.few_outputs }

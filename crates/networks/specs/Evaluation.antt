-- The same forming as a plain function of a reducing function. Assumes nothing.
use Rattle.std.specs.Prelude.{ℕ, zero, suc, ◌+◌, ◌*◌, ◌/◌, ◌%◌, cond, List, [], ◌∷◌, ◌++◌, length, ◌==◌, nat_le}
use Rattle.costs.specs.Amounts.{Amounts}
use Rattle.costs.specs.Entries.{amount_alone, entry_ops, count}
use Rattle.costs.specs.Lists.{sums}
use Rattle.costs.specs.declared.entry.Entry.{Entry}
use Rattle.sheets.specs.declared.words.Connection.{Connection}
use Rattle.sheets.specs.declared.words.End.{End}
use Rattle.sheets.specs.declared.words.End.TheVariants.{Outside, Inside}
use Rattle.costs.specs.Forming.{Formation, list, long}
use Rattle.networks.specs.Networks.{Network, targets, outputs}
use Rattle.networks.specs.Cards.{target_list}

-- what forming a card comes to: the lists of all events, ascending, or a stop charged to a place, or to 256 + event
pub data Outcome (X : Type 0) : Type 0 where
  made : List (List X) → Outcome X
  stops : ℕ → Outcome X

-- no place has a list yet
abbrev pub no_lists : {X : Type 0} → ℕ → ℕ → List X
no_lists i f = []

-- the table with the list of place n
abbrev pub put : {X : Type 0} → (ℕ → ℕ → List X) → ℕ → List X → ℕ → ℕ → List X
put T n xs i f = cond (8 * i + f == n) xs (T i f)

-- one forming and then another
abbrev pub then : {X : Type 0} → Formation X → (List X → Formation X) → Formation X
then (list ys) f = f ys
then long f = long

-- one list is formed, charged to place p where it is too long, and the rest from there
abbrev pub after : {X : Type 0} → Formation X → ℕ → (List X → Outcome X) → Outcome X
after (list xs) p rest = rest xs
after long p rest = stops p

-- the lists of n events from event e on, behind those that are done
abbrev pub events_by : {X : Type 0} → (ℕ → Formation X) → ℕ → ℕ → List (List X) → Outcome X
events_by P zero e done = made done
events_by P (suc n) e done = after (P e) (256 + e) (λ xs. events_by P n (e + 1) (done ++ xs ∷ []))

module _ {M : Type 0} (ops : Amounts M) (f : List (Entry M) → List (Entry M)) where
  -- reduced, if that has at most 16 entries
  abbrev pub reduced : List (Entry M) → Formation (Entry M)
  reduced xs = cond (nat_le (length (f xs)) 16) (list (f xs)) long

  abbrev pub join_times : ℕ → List (Entry M) → List (Entry M) → Formation (Entry M)
  join_times zero ys xs = list xs
  join_times (suc n) ys xs = then (reduced (sums (entry_ops ops) xs ys)) (join_times n ys)

  abbrev pub follow : (ℕ → ℕ → List (Entry M)) → List End → List (Entry M) → Formation (Entry M)
  follow table [] xs = list xs
  follow table (t ∷ ts) xs = then (reduced (sums (entry_ops ops) xs (target_list ops table t))) (follow table ts)

  abbrev pub send : (ℕ → ℕ → List (Entry M)) → List End → ℕ → List (Entry M) → Formation (Entry M)
  send table [] n xs = list xs
  send table (t ∷ ts) zero xs = list xs
  send table (t ∷ ts) (suc n) xs = then (follow table (t ∷ ts) ((entry_ops ops).zero ∷ [])) (λ ys. join_times (suc n) ys xs)

  abbrev pub send_all : (ℕ → ℕ → List (Entry M)) → List Connection → ℕ → Entry M → List ℕ → List (Entry M) → Formation (Entry M)
  send_all table cs i e [] xs = list xs
  send_all table cs i e (o ∷ os) xs = then (send table (targets cs (Inside i o)) (count e o) xs) (send_all table cs i e os)

  abbrev pub entries : (ℕ → ℕ → List (Entry M)) → List Connection → ℕ → List (Entry M) → List (Entry M) → Formation (Entry M)
  entries table cs i [] xs = reduced xs
  entries table cs i (e ∷ es) xs = then (send_all table cs i e outputs (amount_alone e.amount ∷ [])) (λ ys. entries table cs i es (xs ++ ys))

  -- the list of a place of instance i with these card entries
  abbrev pub place_list : (ℕ → ℕ → List (Entry M)) → List Connection → ℕ → List (Entry M) → Formation (Entry M)
  place_list table cs i es = entries table cs i es []

  -- the list of the composite's own event e
  abbrev pub event_list : (ℕ → ℕ → List (Entry M)) → List Connection → ℕ → Formation (Entry M)
  event_list table cs e = follow table (targets cs (Outside e)) ((entry_ops ops).zero ∷ [])

  module _ (net : Network) (card : ℕ → ℕ → List (Entry M)) where
    -- the lists of these places, in this order, over the lists of those before; then the rest from the table
    abbrev pub places_by : List ℕ → (ℕ → ℕ → List (Entry M)) → ((ℕ → ℕ → List (Entry M)) → Outcome (Entry M)) → Outcome (Entry M)
    places_by [] T rest = rest T
    places_by (n ∷ ns) T rest = after (place_list T net.connections (n / 8) (card (n / 8) (n % 8))) n (λ xs. places_by ns (put T n xs) rest)

    -- the card of a composite block whose places are worked in the order ws: first its places, then its own events, ascending
    abbrev pub network_card : List ℕ → Outcome (Entry M)
    network_card ws = places_by ws no_lists (λ T. events_by (event_list T net.connections) net.inputs 0 [])

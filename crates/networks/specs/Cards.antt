-- How the lists of places and of a composite's own events are formed with what the reducer gave. Assumes nothing.
-- One definition for each sentence of the rule; each has what stands so far as its last list.
use Rattle.std.specs.Prelude.{ℕ, zero, suc, ◌/◌, ◌%◌, ◌<◌, List, [], ◌∷◌, ◌++◌}
use Rattle.std.specs.List.{ContainsAt as Has}
use Rattle.costs.specs.Amounts.{Amounts}
use Rattle.costs.specs.Entries.{amount_alone, one_sent, entry_ops, count}
use Rattle.costs.specs.Lists.{sums, Sized}
use Rattle.costs.specs.declared.entry.Entry.{Entry}
use Rattle.order.specs.Order.{Next, Order}
use Rattle.sheets.specs.declared.words.Connection.{Connection}
use Rattle.sheets.specs.declared.words.End.{End}
use Rattle.sheets.specs.declared.words.End.TheVariants.{Outside, Inside}
use Rattle.costs.specs.Forming.{Formation, list, long, Is, Then, Reduces}
use Rattle.networks.specs.Networks.{Network, targets, outputs, Node, Place, Leads, WorkedIn}

-- the list of a target, over a table of the lists of places: outside one entry with the zero amount and one count there; else the place's list
abbrev pub target_list : {M : Type 0} → Amounts M → (ℕ → ℕ → List (Entry M)) → End → List (Entry M)
target_list ops table (Outside p) = one_sent ops p ∷ []
target_list ops table (Inside i f) = table i f

module _ {M : Type 0} (ops : Amounts M) (gives : List (Entry M) → List (Entry M) → Type 0) where
  -- xs joined with ys and reduced
  abbrev pub Joins : List (Entry M) → List (Entry M) → Formation (Entry M) → Type 0
  Joins xs ys = Reduces gives (sums (entry_ops ops) xs ys)

  -- xs so many times joined with ys and reduced each time
  abbrev pub Times : ℕ → List (Entry M) → List (Entry M) → Formation (Entry M) → Type 0
  Times zero ys xs = Is xs
  Times (suc n) ys xs = Then (Joins xs ys) (Times n ys)

  -- xs, for each target in order, joined with its list and reduced
  abbrev pub Follows : (ℕ → ℕ → List (Entry M)) → List End → List (Entry M) → Formation (Entry M) → Type 0
  Follows table [] xs = Is xs
  Follows table (t ∷ ts) xs = Then (Joins xs (target_list ops table t)) (Follows table ts)

  -- the list of a source with these targets begins as the zero entry
  abbrev pub SourceList : (ℕ → ℕ → List (Entry M)) → List End → Formation (Entry M) → Type 0
  SourceList table ts = Follows table ts ((entry_ops ops).zero ∷ [])

  -- an output with these targets, counted so often: xs joined as often with the source's list and reduced;
  -- one that is not connected, or not counted, changes nothing, and its list is not formed
  abbrev pub Sends : (ℕ → ℕ → List (Entry M)) → List End → ℕ → List (Entry M) → Formation (Entry M) → Type 0
  Sends table [] n xs = Is xs
  Sends table (t ∷ ts) zero xs = Is xs
  Sends table (t ∷ ts) (suc n) xs = Then (SourceList table (t ∷ ts)) (λ ys. Times (suc n) ys xs)

  -- these outputs of instance i, one after another, as often as the entry counts each
  abbrev pub SendsAll : (ℕ → ℕ → List (Entry M)) → List Connection → ℕ → Entry M → List ℕ → List (Entry M) → Formation (Entry M) → Type 0
  SendsAll table cs i e [] xs = Is xs
  SendsAll table cs i e (o ∷ os) xs = Then (Sends table (targets cs (Inside i o)) (count e o) xs) (SendsAll table cs i e os)

  -- one card entry: it begins with the entry's amount and no counts
  abbrev pub EntryList : (ℕ → ℕ → List (Entry M)) → List Connection → ℕ → Entry M → Formation (Entry M) → Type 0
  EntryList table cs i e = SendsAll table cs i e outputs (amount_alone e.amount ∷ [])

  -- the lists of the card entries, put after one another behind xs, reduced
  abbrev pub Entries : (ℕ → ℕ → List (Entry M)) → List Connection → ℕ → List (Entry M) → List (Entry M) → Formation (Entry M) → Type 0
  Entries table cs i [] xs = Reduces gives xs
  Entries table cs i (e ∷ es) xs = Then (EntryList table cs i e) (λ ys. Entries table cs i es (xs ++ ys))

  -- the list of a place of instance i with these card entries
  abbrev pub PlaceList : (ℕ → ℕ → List (Entry M)) → List Connection → ℕ → List (Entry M) → Formation (Entry M) → Type 0
  PlaceList table cs i es = Entries table cs i es []

  -- the list of the composite's own event e is that of its outside source
  abbrev pub EventList : (ℕ → ℕ → List (Entry M)) → List Connection → ℕ → Formation (Entry M) → Type 0
  EventList table cs e = SourceList table (targets cs (Outside e))

module _ {M : Type 0} (ops : Amounts M) (gives : List (Entry M) → List (Entry M) → Type 0) (net : Network) (card : ℕ → ℕ → List (Entry M)) where
  -- the table has a list of place (i, f) that is formed from the lists of others in it
  pub record Formed (table : ℕ → ℕ → List (Entry M)) (i f : ℕ) : Type 0 where
    pub formed : PlaceList ops gives table net.connections i (card i f) (list (table i f))
    pub sized : Sized (table i f)

  -- every place can be worked, and has its list in the table
  pub record Worked (table : ℕ → ℕ → List (Entry M)) : Type 0 where
    pub ws : List ℕ
    pub complete : WorkedIn net card ws
    pub places : (i f : ℕ) → Place net i f → Formed table i f

  -- n is the first place in working order whose list is not formed for a reduced list above 16
  pub record TooLongAt (n : ℕ) : Type 0 where
    pub ws : List ℕ
    pub order : Order (Node net) (Leads net card) ws
    pub next : Next (Node net) (Leads net card) (Has ws) n
    pub table : ℕ → ℕ → List (Entry M)
    pub before : (m : ℕ) → Has ws m → Formed table (m / 8) (m % 8)
    pub stopped : PlaceList ops gives table net.connections (n / 8) (card (n / 8) (n % 8)) long

  -- the lists of the composite's own events, over some table of the lists of places
  pub record Card (lists : ℕ → List (Entry M)) : Type 0 where
    pub table : ℕ → ℕ → List (Entry M)
    pub worked : Worked table
    pub events : (e : ℕ) → e < net.inputs → EventList ops gives table net.connections e (list (lists e))

  -- e is the first of the composite's own events whose list is not formed, all places being worked
  pub record TooLongEvent (e : ℕ) : Type 0 where
    pub event : e < net.inputs
    pub table : ℕ → ℕ → List (Entry M)
    pub worked : Worked table
    pub before : (d : ℕ) → d < e → (es : List (Entry M)) × EventList ops gives table net.connections d (list es)
    pub stopped : EventList ops gives table net.connections e long

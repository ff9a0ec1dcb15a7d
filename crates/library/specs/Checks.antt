-- The checks of a call, in number order, each over the whole sheet: what fails, at which place, and what passes. Assumes nothing.
use Rattle.std.specs.Prelude.{◌≡◌, ℕ, ◌<◌, ◌≤◌, true, ◌⊎◌, List, [], length, is_ok, Err, Result}
use Rattle.costs.specs.declared.entry.Entry.{Entry}
use Rattle.sheets.specs.Refusals.{framing_of, check_of}
use Rattle.sheets.specs.Sheets.{Sheet, sheet_of, offsets_of}
use Rattle.sheets.specs.declared.opened.Checked.{Checked}
use Rattle.sheets.specs.declared.refusal.Refusal.{Refusal as SheetRefusal}
use Rattle.sheets.specs.declared.words.Item.TheVariants.{Connection}
use Rattle.sheets.specs.declared.words.Kind.{Kind}
use Rattle.sheets.specs.declared.words.Kind.TheVariants.{Basic, Service, Composite}
use Rattle.charts.specs.Charts.{Named as NamedChart}
use Rattle.charts.specs.Forming.{made}
use Rattle.charts.specs.Naming.{Naming}
use Rattle.charts.specs.Refusals.{CardBy, RefusedBy}
use Rattle.charts.specs.declared.refusal.Refusal.{Refusal as ChartRefusal}
use Rattle.networks.specs.Networks.{Network, network_of, Named as NamedNetwork}
use Rattle.networks.specs.Promises.{lists_from}
use Rattle.networks.specs.Refusals.{Misnamed as MisnamedNetwork, Distinct, Unworked as UnworkedNetwork, Carded}
use Rattle.networks.specs.declared.beneath.Face.{Face}
use Rattle.networks.specs.declared.refusal.Refusal.{Refusal as NetworkRefusal}
use Rattle.library.specs.Books.{Rules, Book, size, at, face_of, instance_of, Stale}
use Rattle.library.specs.Refusals.{Told, by_library, by_sheet, by_chart, by_network}

-- how long a library's tables are: the shelf in bytes, the index in rows, the cards in rows of an entry each
pub record Sizes : Type 0 where
  pub shelf : ℕ
  pub index : ℕ
  pub cards : ℕ

-- how many working rows and how many of the caller's rows a call is lent
pub record Lent : Type 0 where
  pub rows : ℕ
  pub out : ℕ

-- the blocks that a sheet is placed over, by number: how many there are, whose cards are out of date, the interface of each and the lists on its card
pub record Blocks (M : Type 0) : Type 1 where
  pub count : ℕ
  pub old : ℕ → Type 0
  pub face : ℕ → Face
  pub card : ℕ → ℕ → List (Entry M)

-- those of a book
abbrev pub blocks_of : {M : Type 0} → Book M → Blocks M
blocks_of b = record { count = size b; old = Stale b; face = face_of b; card = λ n. (at b n).card }

-- what checks and working come to: turned down, or fine with what is answered
pub data Verdict (X : Type 0) : Type 0 where
  turned : Told → Verdict X
  fine : X → Verdict X

-- one check, and then the rest: it turns down, or it passes and the rest decides
abbrev pub Then : {X : Type 0} → (Told → Type 0) → Type 0 → (Verdict X → Type 0) → Verdict X → Type 0
Then Fails Passes Rest (turned t) = Fails t ⊎ (Passes × Rest (turned t))
Then Fails Passes Rest (fine x) = Passes × Rest (fine x)

-- k is the first number of which P holds
pub record First (P : ℕ → Type 0) (k : ℕ) : Type 0 where
  pub holds : P k
  pub before : (j : ℕ) → j < k → P j → ⊥

-- P holds of no number
abbrev pub Never : (ℕ → Type 0) → Type 0
Never P = (j : ℕ) → P j → ⊥

-- the library's refusal of that number at the first place of which P holds
pub record FirstAt (number : ℕ) (P : ℕ → Type 0) (t : Told) : Type 0 where
  pub place : ℕ
  pub first : First P place
  pub is : t ≡ by_library number place

-- the library's refusal of that number at a place, where P holds
pub record Plainly (number place : ℕ) (P : Type 0) (t : Told) : Type 0 where
  pub holds : P
  pub is : t ≡ by_library number place

-- checks 1 and 2 answered a refusal
pub record Bad (answer : Result Unit SheetRefusal) (t : Told) : Type 0 where
  pub refusal : SheetRefusal
  pub is : answer ≡ Err refusal
  pub as_told : t ≡ by_sheet refusal

-- check 1 passes: the bytes are fields end to end
abbrev pub Framed : List ℕ → Type 0
Framed bs = is_ok (framing_of bs) ≡ true

-- check 2 passes: the fields make a sheet whose amounts take w bytes
abbrev pub Right : ℕ → List ℕ → Type 0
Right w bs = is_ok (check_of w bs) ≡ true

module _ {M : Type 0} (v : Blocks M) (s : Sheet) where
  -- check 3: instance i names no block
  pub record Missing (i : ℕ) : Type 0 where
    pub instance : i < length s.instances
    pub no_block : v.count ≤ instance_of s i

  -- check 4: the card of the block that instance i names is out of date
  pub record Behind (i : ℕ) : Type 0 where
    pub instance : i < length s.instances
    pub stale : v.old (instance_of s i)

  -- the interfaces and the cards of the blocks that the instances name
  abbrev pub faces_beneath : ℕ → Face
  faces_beneath i = v.face (instance_of s i)

  abbrev pub cards_beneath : ℕ → ℕ → List (Entry M)
  cards_beneath i f = v.card (instance_of s i) f

  -- the composite block that the sheet describes, over these interfaces
  abbrev pub network : Network
  network = network_of s faces_beneath

-- check 5 of a basic or a service sheet: the first field with a number that names nothing
pub record UnnamedChart (w : ℕ) (bs : List ℕ) (t : Told) : Type 0 where
  pub sheet : Checked
  pub bytes : sheet.bytes.now ≡ bs
  pub width : sheet.width.bytes ≡ w
  pub refusal : ChartRefusal
  pub is : Naming sheet (Err refusal)
  pub as_told : t ≡ by_chart refusal

-- checks 5 and 6 of a composite sheet: the first connection that names nothing, then the first that is repeated
pub record Miswired (net : Network) (bs : List ℕ) (t : Told) : Type 0 where
  pub refusal : NetworkRefusal
  pub is : MisnamedNetwork net (offsets_of Connection bs) refusal
  pub as_told : t ≡ by_network refusal

-- checks 5 and 6 fail, by the kind of block, over these interfaces beneath
abbrev pub MisnamedBy : (ℕ → Face) → ℕ → List ℕ → Kind → Told → Type 0
MisnamedBy faces w bs Basic t = UnnamedChart w bs t
MisnamedBy faces w bs Service t = UnnamedChart w bs t
MisnamedBy faces w bs Composite t = Miswired (network_of (sheet_of w bs) faces) bs t

-- they pass: every number names something, and no connection is repeated
abbrev pub NamedBy : (ℕ → Face) → Sheet → Kind → Type 0
NamedBy faces s Basic = NamedChart s
NamedBy faces s Service = NamedChart s
NamedBy faces s Composite = NamedNetwork (network_of s faces) × Distinct s.connections

module _ {M : Type 0} (v : Blocks M) where
  abbrev pub Misnamed : ℕ → List ℕ → Told → Type 0
  Misnamed w bs t = MisnamedBy (faces_beneath v (sheet_of w bs)) w bs (sheet_of w bs).face.kind t

  abbrev pub Named : Sheet → Type 0
  Named s = NamedBy (faces_beneath v s) s s.face.kind

-- the working of a basic or a service block stops: check 8 at the lowest state that cannot be worked, check 10 at the first list above 16 in working order
pub record ChartStops {M : Type 0} (rules : Rules M) (s : Sheet) (kind : Kind) (t : Told) : Type 0 where
  pub refusal : ChartRefusal
  pub is : RefusedBy rules.ops rules.meant rules.gives s kind refusal
  pub as_told : t ≡ by_chart refusal

-- the working of a composite stops, over the cards beneath: checks 8, 9 and 10
pub record NetworkStops {M : Type 0} (rules : Rules M) (net : Network) (cards : ℕ → ℕ → List (Entry M)) (t : Told) : Type 0 where
  pub refusal : NetworkRefusal
  pub is : UnworkedNetwork rules.ops rules.gives net cards refusal
  pub as_told : t ≡ by_network refusal

-- over these interfaces and cards beneath
module _ {M : Type 0} (rules : Rules M) (faces : ℕ → Face) (cards : ℕ → ℕ → List (Entry M)) (s : Sheet) where
  -- the working stops, by the kind of block
  abbrev pub StopsBy : Kind → Told → Type 0
  StopsBy Basic t = ChartStops rules s Basic t
  StopsBy Service t = ChartStops rules s Service t
  StopsBy Composite t = NetworkStops rules (network_of s faces) cards t

  -- the lists are those that the rules form with what the reducer gave
  abbrev pub FormedBy : Kind → (ℕ → List (Entry M)) → Type 0
  FormedBy Basic card = CardBy rules.ops rules.meant rules.gives s Basic (made (lists_from card s.face.inputs 0))
  FormedBy Service card = CardBy rules.ops rules.meant rules.gives s Service (made (lists_from card s.face.inputs 0))
  FormedBy Composite card = Carded rules.ops rules.gives (network_of s faces) cards card

  -- a card: a list for each input event, formed by the rules, and none for any other number
  pub record CardOver (card : ℕ → List (Entry M)) : Type 0 where
    pub formed : FormedBy s.face.kind card
    pub none : (e : ℕ) → s.face.inputs ≤ e → card e ≡ []

module _ {M : Type 0} (rules : Rules M) (v : Blocks M) (s : Sheet) where
  -- the card of the sheet over these blocks
  abbrev pub CardOf : (ℕ → List (Entry M)) → Type 0
  CardOf card = CardOver rules (faces_beneath v s) (cards_beneath v s) s card

  -- the working: checks 8, 9 and 10, or the card
  abbrev pub Working : Verdict (ℕ → List (Entry M)) → Type 0
  Working (turned t) = StopsBy rules (faces_beneath v s) (cards_beneath v s) s s.face.kind t
  Working (fine card) = CardOf card

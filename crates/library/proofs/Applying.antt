-- One call of a list: what its callee promised, as apply promises it. Assumes nothing.
use Rattle.std.proofs.Common.{◌≡◌, ℕ, ◌≤◌, min, true, false, cond, leb, List, ◌++◌, length, take, drop, is_ok, Ok, Err, Result, sym, refl, ap, ◌∙◌, subst, ap₂, inl, inr, ⊎_elim, arith}
use Rattle.std.proofs.lemmas.List.{take_at, drop_at, take-append-drop, length-take-le}
use Rattle.std.proofs.lemmas.Bool.{cases_lt, le-leb}
use Rattle.costs.specs.Amounts.{Lawful}
use Rattle.costs.specs.Lists.{Sound as SoundReducer}
use Rattle.costs.specs.declared.entry.Entry.{Entry}
use Rattle.std.specs.Result.{result_and}
use Rattle.sheets.specs.Refusals.{framing_of, check_of, both_of}
use Rattle.sheets.specs.declared.refusal.Refusal.{Refusal as SheetRefusal}
use Rattle.library.specs.Books.{Rules, Book}
use Rattle.library.specs.Calls.{Answer, asked, lent_to, replied}
use Rattle.library.specs.Checks.{Sizes, Lent, turned, Bad, Framed}
use Rattle.library.specs.Law.{GoesOn}
use Rattle.library.specs.Memory.{Stands}
use Rattle.library.specs.Refusals.{by_sheet}
use Rattle.library.specs.Replaying.{answered}
use Rattle.library.specs.Replies.{reply}
use Rattle.library.specs.Steps.{Ask, preview, card, Reply, previewed, shown, refused, Step, no_preview, previews, shows, Previewing, PreviewLacks}
use Rattle.library.specs.Tables.{sizes_of}
use Rattle.library.specs.declared.calls.Accepted.{Accepted}
use Rattle.library.specs.declared.calls.Call.{Call}
use Rattle.library.specs.declared.refusal.Refusal.{Refusal}
use Rattle.library.specs.declared.row.Row.{Row}
use Rattle.library.proofs.Soundness.{stands_sound}

-- the same promise in other words
pub goes_as : {M : Type 0} {rules : Rules M} {ask ask' : Ask} {lent lent' : Lent} {reply reply' : Reply M} {s s' : List ℕ} {i i' : List Row} {c c' : List (Entry M)}
    → ask' ≡ ask → lent' ≡ lent → reply' ≡ reply → GoesOn rules ask lent reply s i c s' i' c' → GoesOn rules ask' lent' reply' s i c s' i' c'
goes_as {rules = rules} {ask' = ask'} {lent = lent} {lent' = lent'} {reply = reply} {s = s} {s' = s'} {i = i} {i' = i'} {c = c} {c' = c'} a l r goes =
    subst (λ z. GoesOn rules ask' lent' z s i c s' i' c') (sym r)
    (subst (λ z. GoesOn rules ask' z reply s i c s' i' c') (sym l)
    (subst (λ z. GoesOn rules z lent reply s i c s' i' c') (sym a) goes))

-- an answer without lists, whole
pub replied_plain : {X M : Type 0} (make : X → Accepted) (say : X → Reply M) (xs : List (Entry M)) → ((x : X) → replied (Ok (make x)) xs ≡ say x) → (r : Result X Refusal) → replied (answered make r) xs ≡ reply say r
replied_plain make say xs agrees (Ok x) = agrees x
replied_plain make say xs agrees (Err e) = refl

-- an accepted preview was lent 128 of the caller's rows, and a card that was shown 16
pub previewed_room : {M : Type 0} {rules : Rules M} {sizes : Sizes} {b d : Book M} {w : ℕ} {bs : List ℕ} {lent : Lent} {card : ℕ → List (Entry M)} → Step rules sizes b (preview w bs) lent (previewed card) d → 128 ≤ lent.out
previewed_room (previews w bs lent lists p) = ⊎_elim (λ lt. absurd (p.1.1.1.1.1.1.0 5 (PreviewLacks.out lt))) (λ le. le) (cases_lt lent.out 128)

pub shown_room : {M : Type 0} {rules : Rules M} {sizes : Sizes} {b d : Book M} {n e : ℕ} {lent : Lent} {es : List (Entry M)} → Step rules sizes b (card n e) lent (shown es) d → 16 ≤ lent.out
shown_room (shows n e lent es p) = p.1.1.1.0

-- rows that are all taken
all_taken : (k o m t left : ℕ) → m ≡ min k (min o left) → t ≡ cond (leb k (min o left)) k 0 → k ≤ m → t ≡ m
all_taken k o m t left cut is le =
    let z : leb k (min o left) ≡ true = le-leb k (min o left) (omega arith) in
    let same : k ≡ m = omega arith in
    is ∙ ap (λ b. cond b k 0) z ∙ same

-- so many rows of a table, as many as it has
pub lent_part : {X : Type 0} (n o : ℕ) (xs : List X) → n ≡ min o (length xs) → min o (length xs) ≡ length (take n xs)
lent_part n o xs is = sym is ∙ sym (length-take-le n xs (omega arith))

pub same_lent : {a b a' b' : ℕ} → a ≡ a' → b ≡ b' → ◌≡◌ {A = Lent} (record { rows = a; out = b }) (record { rows = a'; out = b' })
same_lent p q = ap₂ (λ x y. record { rows = x; out = y }) p q

-- a call whose answer has no list
pub plain_book : {M X : Type 0} {rules : Rules M} {lent : Lent} {s s' : List ℕ} {i i' : List Row} {c c' : List (Entry M)} (make : X → Accepted) (say : X → Reply M)
    → ((x : X) (xs : List (Entry M)) → replied (Ok (make x)) xs ≡ say x) → (rows left : ℕ) (call call' : Call) (xs : List (Entry M)) (answer : Answer) (r : Result X Refusal)
    → call ≡ call' → answer ≡ answered make r → lent_to rows left call' ≡ lent → GoesOn rules (asked call') lent (reply say r) s i c s' i' c'
    → GoesOn rules (asked call) (lent_to rows left call) (replied answer xs) s i c s' i' c'
plain_book make say agrees rows left call call' xs answer r is said lends goes =
    goes_as (ap asked is) (ap (lent_to rows left) is ∙ lends) (ap (λ a. replied a xs) said ∙ replied_plain make say xs (λ x. agrees x xs) r) goes

-- a call that writes its lists into the first m rows that are left, which are as many as they take, or into none
pub written_rest : {M X : Type 0} {rules : Rules M} {ask : Ask} {lent : Lent} {s : List ℕ} {i : List Row} {c : List (Entry M)} (say : List (Entry M) → X → Reply M) (k o m t : ℕ) (left part : List (Entry M))
    → m ≡ min k (min o (length left)) → length part ≡ m → t ≡ cond (leb k (min o (length left))) k 0
    → ((x : X) (b d : Book M) → Step rules (sizes_of s i c) b ask lent (say part x) d → k ≤ m)
    → (r : Result X Refusal) → (is_ok r ≡ false → part ≡ take m left) → GoesOn rules ask lent (reply (say part) r) s i c s i c
    → (b : Book M) → Stands rules b s i c → drop t (part ++ drop m left) ≡ drop t left
written_rest say k o m t left part cut long is room (Ok x) same goes b st =
    let next = goes b st in
    let all = all_taken k o m t (length left) cut is (room x b next.0 next.1.0) in
    drop_at part (drop m left) t (long ∙ sym all) ∙ ap (λ n. drop n left) (sym all)
written_rest say k o m t left part cut long is room (Err e) same goes b st = ap (drop t) (ap (λ xs. xs ++ drop m left) (same refl) ∙ take-append-drop m left)

pub written_book : {M X : Type 0} {rules : Rules M} {ask : Ask} {lent : Lent} {s : List ℕ} {i : List Row} {c : List (Entry M)} (make : X → Accepted) (say : List (Entry M) → X → Reply M)
    → ((x : X) (xs : List (Entry M)) → replied (Ok (make x)) xs ≡ say xs x) → (k o m t : ℕ) (left part : List (Entry M))
    → m ≡ min k (min o (length left)) → length part ≡ m → t ≡ cond (leb k (min o (length left))) k 0
    → ((x : X) (b d : Book M) → Step rules (sizes_of s i c) b ask lent (say part x) d → k ≤ m)
    → (r : Result X Refusal) → GoesOn rules ask lent (reply (say part) r) s i c s i c → GoesOn rules ask lent (replied (answered make r) (take t (part ++ drop m left))) s i c s i c
written_book {rules = rules} {ask = ask} {lent = lent} {s = s} {i = i} {c = c} make say agrees k o m t left part cut long is room (Ok x) goes b st =
    let next = goes b st in
    let all = all_taken k o m t (length left) cut is (room x b next.0 next.1.0) in
    let as_said = agrees x (take t (part ++ drop m left)) ∙ ap (λ xs. say xs x) (take_at part (drop m left) t (long ∙ sym all)) in
    (next.0, (subst (λ z. Step rules (sizes_of s i c) b ask lent z next.0) (sym as_said) next.1.0, next.1.1))
written_book make say agrees k o m t left part cut long is room (Err e) goes b st = goes b st

-- checks 1 and 2 stop at check 1, or at check 2 after it
pub read_stops : (w : ℕ) (bs : List ℕ) (e : SheetRefusal) {P : Type 0} → both_of w bs ≡ Err e → (Bad (framing_of bs) (by_sheet e) → P) → (Framed bs → Bad (check_of w bs) (by_sheet e) → P) → P
read_stops w bs e {P} is first second = by_first (framing_of bs) refl is
  where
    by_first : (r : Result Unit SheetRefusal) → framing_of bs ≡ r → result_and r (check_of w bs) ≡ Err e → P
    by_first (Ok x) f is = second (ap is_ok f) (record { refusal = e; is = is; as_told = refl })
    by_first (Err y) f is = first (record { refusal = e; is = f ∙ is; as_told = refl })

-- a preview that stops at check 1 or 2 changes nothing
module _ {M : Type 0} (rules : Rules M) (laws : Lawful rules.ops) (sound : SoundReducer rules.ops rules.gives) (w : ℕ) (bs : List ℕ) (lent : Lent)
    (s : List ℕ) (i : List Row) (c : List (Entry M)) (e : SheetRefusal) where
  stops : ((b : Book M) → Previewing rules b lent w bs (turned (by_sheet e))) → GoesOn rules (preview w bs) lent (refused (by_sheet e)) s i c s i c
  stops p b st = (b, (no_preview w bs lent (by_sheet e) (p b), (st, stands_sound rules laws sound b s i c st)))

  pub stops_read : both_of w bs ≡ Err e → GoesOn rules (preview w bs) lent (refused (by_sheet e)) s i c s i c
  stops_read is = stops (λ b. read_stops w bs e is (λ bad. inl bad) (λ framed bad. inr (framed, inl bad)))

-- What replaying calls keeps, one call more. Assumes nothing.
use Rattle.std.proofs.Common.{◌≡◌, ℕ, ◌+◌, ◌-◌, ◌<◌, ◌≤◌, List, [], ◌∷◌, ◌++◌, length, get_or, take, drop, set, sym, refl, ap, ◌∙◌, subst, ap₂, arith}
use Rattle.std.proofs.lemmas.List.{append-nil, take_rest, drop_all, take_more, take_at, drop_at, drop-drop, drop-set-lt, length-take-le, length-drop, length-append}
use Rattle.costs.specs.declared.entry.Entry.{Entry}
use Rattle.library.specs.Books.{Rules, Book, empty}
use Rattle.library.specs.Calls.{Answer, asked, lent_to, taken, cursor, asks, replied, replies}
use Rattle.library.specs.Checks.{Sizes}
use Rattle.library.specs.Law.{Sound, GoesOn}
use Rattle.library.specs.Memory.{Stands}
use Rattle.library.specs.Steps.{Step, History, begun}
use Rattle.library.specs.Tables.{sizes_of}
use Rattle.library.specs.declared.calls.Call.{Call}
use Rattle.library.specs.declared.row.Row.{Row}
use Rattle.library.proofs.Histories.{taken_within, cursor_push, history_more}

-- after i calls, which took `at` of the caller's rows: later rows and answers are as they were, and the tables stand for a book with this history
pub record Replayed {M : Type 0} (rules : Rules M) (sizes : Sizes) (rows : ℕ) (calls : List Call) (answers₀ : List Answer) (out₀ : List (Entry M))
    (i at : ℕ) (answers : List Answer) (out : List (Entry M)) (shelf : List ℕ) (index : List Row) (cards : List (Entry M)) : Type 0 where
  pub cursor_is : at ≡ cursor (length out₀) (take i calls)
  pub inside : at ≤ length out₀
  pub rest : drop at out ≡ drop at out₀
  pub unanswered : drop i answers ≡ drop i answers₀
  pub book : Book M
  pub history : History rules sizes (asks rows (length out₀) (take i calls)) (replies (take i calls) (take i answers) out) book
  pub stands : Stands rules book shelf index cards
  pub sound : Sound rules book index cards

pub replayed_none : {M : Type 0} (rules : Rules M) (sizes : Sizes) (rows : ℕ) (calls : List Call) (answers : List Answer) (out : List (Entry M)) (shelf : List ℕ) (index : List Row) (cards : List (Entry M))
    → Stands rules empty shelf index cards → Sound rules empty index cards → Replayed rules sizes rows calls answers out 0 0 answers out shelf index cards
replayed_none rules sizes rows calls answers out shelf index cards stands sound =
    record { cursor_is = refl; inside = omega arith; rest = refl; unanswered = refl; book = empty; history = begun; stands = stands; sound = sound }

module _ {M : Type 0} {rules : Rules M} {sizes : Sizes} {rows : ℕ} {calls : List Call} {answers₀ : List Answer} {out₀ : List (Entry M)} where
  -- all calls are made, on tables of these sizes
  pub replayed_all : {i n at : ℕ} {answers : List Answer} {out : List (Entry M)} {shelf : List ℕ} {index : List Row} {cards : List (Entry M)} {as_lent : Sizes} → i ≡ n → sizes ≡ as_lent
      → Replayed rules sizes rows calls answers₀ out₀ i at answers out shelf index cards → Replayed rules as_lent rows calls answers₀ out₀ n at answers out shelf index cards
  replayed_all {n = n} {at = at} {answers = answers} {out = out} {shelf = shelf} {index = index} {cards = cards} made same was =
      subst (λ z. Replayed rules z rows calls answers₀ out₀ n at answers out shelf index cards) same (subst (λ j. Replayed rules sizes rows calls answers₀ out₀ j at answers out shelf index cards) made was)

  -- the next call was handed the rows from `at` on, which are `left` and then `left'`
  pub replayed_more : {i at : ℕ} {answers : List Answer} {out : List (Entry M)} {shelf : List ℕ} {index : List Row} {cards : List (Entry M)}
      (left left' out' : List (Entry M)) (call : Call) (answer : Answer) (shelf' : List ℕ) (index' : List Row) (cards' : List (Entry M))
      → Replayed rules sizes rows calls answers₀ out₀ i at answers out shelf index cards
      → i < length calls → i < length answers → call ≡ get_or calls i call → length out ≡ length out₀ → sizes_of shelf index cards ≡ sizes
      → left ≡ drop at out → length left' ≡ length left → out' ≡ take at out ++ left'
      → ((b : Book M) → Stands rules b shelf index cards → drop (taken (length left) call) left' ≡ drop (taken (length left) call) left)
      → GoesOn rules (asked call) (lent_to rows (length left) call) (replied answer (take (taken (length left) call) left')) shelf index cards shelf' index' cards'
      → Replayed rules sizes rows calls answers₀ out₀ (i + 1) (at + taken (length left) call) (set answers i answer) out' shelf' index' cards'
  replayed_more {i} {at} {answers} {out} {shelf} {index} {cards} left left' out' call answer shelf' index' cards' was ltc lta is long sized isl same iso after goes =
      let next = goes was.book was.stands in
      let n = taken (length left) call in
      let mcs : take (i + 1) calls ≡ take i calls ++ (call ∷ []) = take_more calls i call ltc ∙ ap (λ x. take i calls ++ (x ∷ [])) (sym is) in
      let fits : at ≤ length out = omega (arith, was.inside) in
      let leni : length (take at out) ≡ at = length-take-le at out fits in
      let lenl : length left ≡ length out - at = ap length isl ∙ length-drop at out in
      let leno : length out' ≡ length out = omega (arith, ap length iso, length-append (take at out) left') in
      let back : drop at out' ≡ left' = ap (drop at) iso ∙ drop_at (take at out) left' at leni in
      let front : take at out' ≡ take at out = ap (take at) iso ∙ take_at (take at out) left' at leni in
      let le : n ≤ length left = taken_within (length left) call in
      let at-is : at ≡ cursor (length out) (take i calls) = was.cursor_is ∙ ap (λ l. cursor l (take i calls)) (sym long) in
      let left_is : length left ≡ length out - cursor (length out) (take i calls) = lenl ∙ ap (λ a. length out - a) at-is in
      let hist : History rules sizes (asks rows (length out) (take i calls)) (replies (take i calls) (take i answers) out) was.book =
      subst (λ l. History rules sizes (asks rows l (take i calls)) (replies (take i calls) (take i answers) out) was.book) (sym long) was.history in
      let step : Step rules sizes was.book (asked call) (lent_to rows (length left) call) (replied answer (take n left')) next.0 =
      subst (λ z. Step rules z was.book (asked call) (lent_to rows (length left) call) (replied answer (take n left')) next.0) sized next.1.0 in
      let step' : Step rules sizes was.book (asked call) (lent_to rows (length left) call) (replied answer (take n (drop (cursor (length out) (take i calls)) out'))) next.0 =
      subst (λ z. Step rules sizes was.book (asked call) (lent_to rows (length left) call) (replied answer (take n z)) next.0) (sym (ap (λ a. drop a out') (sym at-is) ∙ back)) step in
      let step'' = subst (λ l. Step rules sizes was.book (asked call) (lent_to rows l call) (replied answer (take (taken l call) (drop (cursor (length out) (take i calls)) out'))) next.0) left_is step' in
      let more = history_more rules sizes rows calls answers i call answer out out' was.book next.0 ltc lta is leno (subst (λ a. take a out' ≡ take a out) at-is front) hist step'' in
      record {
        cursor_is = ap₂ (λ a l. a + taken l call) at-is left_is ∙ sym (cursor_push (length out) (take i calls) call) ∙ ap₂ (λ l cs. cursor l cs) long (sym mcs);
        inside = omega (arith, was.inside);
        rest = sym (drop-drop n at out') ∙ ap (drop n) back ∙ after was.book was.stands ∙ ap (drop n) (isl ∙ was.rest) ∙ drop-drop n at out₀;
        unanswered = drop-set-lt (i + 1) answers i answer (omega arith) ∙ sym (drop-drop 1 i answers) ∙ ap (drop 1) was.unanswered ∙ drop-drop 1 i answers₀;
        book = next.0;
        history = subst (λ l. History rules sizes (asks rows l (take (i + 1) calls)) (replies (take (i + 1) calls) (take (i + 1) (set answers i answer)) out') next.0) long more;
        stands = next.1.1.0;
        sound = next.1.1.1;
      }

  -- the rows from `at` on are handed over as a part of the caller's, which ends with them
  pub replayed_next : {i at : ℕ} {answers : List Answer} {out : List (Entry M)} {shelf : List ℕ} {index : List Row} {cards : List (Entry M)}
      (call : Call) (rows' n : ℕ) (left' : List (Entry M)) (answer : Answer) (shelf' : List ℕ) (index' : List Row) (cards' : List (Entry M))
      → Replayed rules sizes rows calls answers₀ out₀ i at answers out shelf index cards
      → i < length calls → i < length answers → call ≡ get_or calls i call → length out ≡ length out₀ → sizes_of shelf index cards ≡ sizes → rows' ≡ rows
      → n ≡ taken (length out - at) call → length left' ≡ length (take (length out - at) (drop at out))
      → ((b : Book M) → Stands rules b shelf index cards
      → drop (taken (length (take (length out - at) (drop at out))) call) left' ≡ drop (taken (length (take (length out - at) (drop at out))) call) (take (length out - at) (drop at out)))
      → GoesOn rules (asked call) (lent_to rows' (length (take (length out - at) (drop at out))) call)
      (replied answer (take (taken (length (take (length out - at) (drop at out))) call) left')) shelf index cards shelf' index' cards'
      → Replayed rules sizes rows calls answers₀ out₀ (i + 1) (at + n) (set answers i answer) (take at out ++ (left' ++ drop (length out - at) (drop at out))) shelf' index' cards'
  replayed_next {i} {at} {answers} {out} {shelf} {index} {cards} call rows' n left' answer shelf' index' cards' was ltc lta is_call long sized lends is same after goes =
      let none : drop (length out - at) (drop at out) ≡ [] = drop_all (length out - at) (drop at out) (omega (arith, length-drop at out)) in
      let end : take at out ++ (left' ++ drop (length out - at) (drop at out)) ≡ take at out ++ left' = ap (λ l. take at out ++ l) (ap (λ l. left' ++ l) none ∙ append-nil left') in
      let left_is : take (length out - at) (drop at out) ≡ drop at out = take_rest out at in
      let size : length (take (length out - at) (drop at out)) ≡ length out - at = ap length left_is ∙ length-drop at out in
      let n-is : at + taken (length (take (length out - at) (drop at out))) call ≡ at + n = ap (λ l. at + l) (ap (λ l. taken l call) size ∙ sym is) in
      subst (λ k. Replayed rules sizes rows calls answers₀ out₀ (i + 1) k (set answers i answer) (take at out ++ (left' ++ drop (length out - at) (drop at out))) shelf' index' cards') n-is
      (replayed_more (take (length out - at) (drop at out)) left' (take at out ++ (left' ++ drop (length out - at) (drop at out))) call answer shelf' index' cards' was ltc lta
      is_call long sized left_is same end after
      (subst (λ l. GoesOn rules (asked call) (lent_to l (length (take (length out - at) (drop at out))) call)
      (replied answer (take (taken (length (take (length out - at) (drop at out))) call) left')) shelf index cards shelf' index' cards') lends goes))

pub same_sizes : {a b c a' b' c' : ℕ} → a ≡ a' → b ≡ b' → c ≡ c' → ◌≡◌ {A = Sizes} (record { shelf = a; index = b; cards = c }) (record { shelf = a'; index = b'; cards = c' })
same_sizes {c = c} {a' = a'} {b' = b'} p q r = ap₂ (λ x y. record { shelf = x; index = y; cards = c }) p q ∙ ap (λ z. record { shelf = a'; index = b'; cards = z }) r

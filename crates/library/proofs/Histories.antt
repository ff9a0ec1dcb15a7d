-- A history, one call longer. Assumes nothing.
use Rattle.std.proofs.Common.{◌≡◌, ℕ, ◌+◌, ◌-◌, ◌<◌, ◌≤◌, min, leb, List, [], ◌∷◌, ◌++◌, length, get_or, take, drop, set, sym, refl, ap, ◌∙◌, subst, ap₂, subst₂, arith}
use Rattle.std.proofs.lemmas.List.{take_more, take_more_set, take-take, drop-take, length-take-le, length-drop, drop-drop}
use Rattle.std.proofs.lemmas.Bool.{cond_both, leb-true}
use Rattle.costs.specs.declared.entry.Entry.{Entry}
use Rattle.library.specs.Books.{Rules, Book}
use Rattle.library.specs.Calls.{Answer, asked, out_for, takes, lent_to, taken, cursor, asks, replied, replies}
use Rattle.library.specs.Checks.{Sizes}
use Rattle.library.specs.Steps.{Step, History, later}
use Rattle.library.specs.declared.calls.Call.{Call}

-- a call takes no more of the caller's rows than are left
pub taken_within : (left : ℕ) (call : Call) → taken left call ≤ left
taken_within left call =
    cond_both (leb (takes call) (min (out_for call) left)) (takes call) 0 (λ n. n ≤ left) (λ e. omega (arith, leb-true (takes call) (min (out_for call) left) e)) (λ _. omega arith)

pub cursor_within : (left : ℕ) (calls : List Call) → cursor left calls ≤ left
cursor_within left [] = omega arith
cursor_within left (call ∷ calls) = omega (arith, taken_within left call, cursor_within (left - taken left call) calls)

-- one call more
pub cursor_push : (left : ℕ) (calls : List Call) (call : Call) → cursor left (calls ++ (call ∷ [])) ≡ cursor left calls + taken (left - cursor left calls) call
cursor_push left [] call = let z : left ≡ left - 0 = omega arith in ap (λ n. taken left call + n) refl ∙ (omega (arith, ap (λ n. taken n call) z))
cursor_push left (c ∷ cs) call =
    let t = taken left c in
    let k = cursor (left - t) cs in
    let same : (left - t) - k ≡ left - (t + k) = omega arith in
    omega (arith, cursor_push (left - t) cs call, ap (λ n. taken n call) same)

asks_push : (rows left : ℕ) (calls : List Call) (call : Call) → asks rows left (calls ++ (call ∷ [])) ≡ asks rows left calls ++ (record { ask = asked call; lent = lent_to rows (left - cursor left calls) call } ∷ [])
asks_push rows left [] call = let z : left ≡ left - 0 = omega arith in ap (λ n. record { ask = asked call; lent = lent_to rows n call } ∷ []) z
asks_push rows left (c ∷ cs) call =
    let t = taken left c in
    let same : (left - t) - cursor (left - t) cs ≡ left - (t + cursor (left - t) cs) = omega arith in
    ap (λ l. record { ask = asked c; lent = lent_to rows left c } ∷ l)
    (asks_push rows (left - t) cs call ∙ ap (λ n. asks rows (left - t) cs ++ (record { ask = asked call; lent = lent_to rows n call } ∷ [])) same)

module _ {M : Type 0} where
  -- the answers so far stand in the rows that were taken so far
  replies_same : (calls : List Call) (answers : List Answer) (out out' : List (Entry M)) → length out' ≡ length out → take (cursor (length out) calls) out' ≡ take (cursor (length out) calls) out
      → replies calls answers out' ≡ replies calls answers out
  replies_same [] answers out out' long same = refl
  replies_same (c ∷ cs) [] out out' long same = refl
  replies_same (c ∷ cs) (a ∷ more) out out' long same =
      let t = taken (length out) c in
      let k = cursor (length out - t) cs in
      let within = taken_within (length out) c in
      let len : length (drop t out) ≡ length out - t = length-drop t out in
      let front : take t out' ≡ take t out = sym (take-take t (t + k) out' (omega arith)) ∙ ap (take t) same ∙ take-take t (t + k) out (omega arith) in
      let rest : take k (drop t out') ≡ take k (drop t out) = sym (drop-take t k out') ∙ ap (drop t) same ∙ drop-take t k out in
      ap (λ n. replied a (take (taken n c) out') ∷ replies cs more (drop (taken n c) out')) long
      ∙ ap₂ (λ x y. replied a x ∷ y) front
      (replies_same cs more (drop t out) (drop t out') (length-drop t out' ∙ ap (λ n. n - t) long ∙ sym len)
      (subst (λ n. take (cursor n cs) (drop t out') ≡ take (cursor n cs) (drop t out)) (sym len) rest))

  replies_push : (calls : List Call) (answers : List Answer) (call : Call) (answer : Answer) (out : List (Entry M)) → length calls ≡ length answers
      → replies (calls ++ (call ∷ [])) (answers ++ (answer ∷ [])) out
      ≡ replies calls answers out ++ (replied answer (take (taken (length out - cursor (length out) calls) call) (drop (cursor (length out) calls) out)) ∷ [])
  replies_push [] [] call answer out e = let z : length out ≡ length out - 0 = omega arith in ap (λ n. replied answer (take (taken n call) out) ∷ []) z
  replies_push [] (a ∷ more) call answer out e = absurd (omega arith)
  replies_push (c ∷ cs) [] call answer out e = absurd (omega arith)
  replies_push (c ∷ cs) (a ∷ more) call answer out e =
      let t = taken (length out) c in
      let len : length (drop t out) ≡ length out - t = length-drop t out in
      let k = cursor (length out - t) cs in
      let left : (length out - t) - k ≡ length out - (t + k) = omega arith in
      ap (λ l. replied a (take t out) ∷ l)
      (replies_push cs more call answer (drop t out) (omega arith)
      ∙ ap (λ n. replies cs more (drop t out) ++ (replied answer (take (taken (n - cursor n cs) call) (drop (cursor n cs) (drop t out))) ∷ [])) len
      ∙ ap (λ l. replies cs more (drop t out) ++ (replied answer (take (taken ((length out - t) - k) call) l) ∷ [])) (drop-drop k t out)
      ∙ ap (λ n. replies cs more (drop t out) ++ (replied answer (take (taken n call) (drop (t + k) out)) ∷ [])) left)

  -- call i with its answer r; it changed no row before those it took
  pub history_more : (rules : Rules M) (sizes : Sizes) (rows : ℕ) (calls : List Call) (answers : List Answer) (i : ℕ) (call : Call) (r : Answer) (out out' : List (Entry M)) (b e : Book M)
      → i < length calls → i < length answers → call ≡ get_or calls i call → length out' ≡ length out → take (cursor (length out) (take i calls)) out' ≡ take (cursor (length out) (take i calls)) out
      → History rules sizes (asks rows (length out) (take i calls)) (replies (take i calls) (take i answers) out) b
      → Step rules sizes b (asked call) (lent_to rows (length out - cursor (length out) (take i calls)) call)
      (replied r (take (taken (length out - cursor (length out) (take i calls)) call) (drop (cursor (length out) (take i calls)) out'))) e
      → History rules sizes (asks rows (length out) (take (i + 1) calls)) (replies (take (i + 1) calls) (take (i + 1) (set answers i r)) out') e
  history_more rules sizes rows calls answers i call r out out' b e lc la is long same hist step =
      let cs = take i calls in
      let more : take (i + 1) calls ≡ cs ++ (call ∷ []) = take_more calls i call lc ∙ ap (λ c. cs ++ (c ∷ [])) (sym is) in
      let said : take (i + 1) (set answers i r) ≡ take i answers ++ (r ∷ []) = take_more_set answers i r la in
      let even : length cs ≡ length (take i answers) = length-take-le i calls (omega arith) ∙ sym (length-take-le i answers (omega arith)) in
      let k = cursor (length out) cs in
      let wrote : replies (cs ++ (call ∷ [])) (take i answers ++ (r ∷ [])) out' ≡ replies cs (take i answers) out ++ (replied r (take (taken (length out - k) call) (drop k out')) ∷ []) =
      replies_push cs (take i answers) call r out' even ∙ ap (λ n. replies cs (take i answers) out' ++ (replied r (take (taken (n - cursor n cs) call) (drop (cursor n cs) out')) ∷ [])) long
      ∙ ap (λ l. l ++ (replied r (take (taken (length out - k) call) (drop k out')) ∷ [])) (replies_same cs (take i answers) out out' long same) in
      subst₂ (λ x y. History rules sizes x y e) (sym (ap (asks rows (length out)) more ∙ asks_push rows (length out) cs call)) (sym (ap₂ (λ x y. replies x y out') more said ∙ wrote)) (later _ _ hist step)

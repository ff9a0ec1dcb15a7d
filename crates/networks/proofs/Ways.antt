-- Leading, connection by connection. Assumes nothing.
use Rattle.std.proofs.Common.{◌≡◌, ℕ, ◌/◌, ◌%◌, ◌≤◌, true, cond, List, [], ◌∷◌, sym, refl, ap, ◌∙◌, subst, inl, inr, ⊎_elim, Decides, arith}
use borrow.Author.Tests.{clash}
use Rattle.std.proofs.lemmas.Bool.{cases_Bool, and_parts, eqb-true, eq-eqb, and_from}
use Rattle.costs.specs.Entries.{count}
use Rattle.costs.specs.Lists.{Among}
use Rattle.costs.specs.declared.entry.Entry.{Entry}
use Rattle.order.specs.Order.{Any}
use Rattle.sheets.specs.declared.words.Connection.{Connection}
use Rattle.sheets.specs.declared.words.End.{End}
use Rattle.sheets.specs.declared.words.End.TheVariants.{Outside, Inside}
use Rattle.costs.proofs.Interface.{among_all}
use Rattle.networks.specs.Networks.{same, targets, Network, Named, Node, Target, Leads, Full}
use Rattle.networks.proofs.Places.{source_targets}
use Rattle.sheets.specs.contracts.words.EndPartialEq as of_end
use Rattle.networks.specs.Rows.{has_some}
use Rattle.networks.specs.Ways.{SendsOn, Carries}

pub same_true : (a b : End) → same a b ≡ true → a ≡ b
same_true (Outside p) (Outside q) e = ap Outside (eqb-true p q e)
same_true (Outside p) (Inside j g) e = absurd (clash e)
same_true (Inside i f) (Outside q) e = absurd (clash e)
same_true (Inside i f) (Inside j g) e =
    let both = and_parts _ _ e in
    ap (λ a. Inside a f) (eqb-true i j both.0) ∙ ap (Inside j) (eqb-true f g both.1)

pub same_same : (a : End) → same a a ≡ true
same_same (Outside p) = eq-eqb p p refl
same_same (Inside i f) = and_from _ _ (eq-eqb i i refl) (eq-eqb f f refl)

-- an entry of which P holds stands in the list
pub any_from : {X : Type 0} (P : X → Type 0) (x : X) (xs : List X) → Among x xs → P x → Any P xs
any_from P x [] h p = absurd h
any_from P x (y ∷ ys) (inl e) p = inl (subst P (sym e) p)
any_from P x (y ∷ ys) (inr h) p = inr (any_from P x ys h p)

pub any_one : {X : Type 0} (P : X → Type 0) (xs : List X) → Any P xs → (x : X) × (Among x xs × P x)
any_one P [] h = absurd h
any_one P (x ∷ xs) (inl p) = (x, (inl refl, p))
any_one P (x ∷ xs) (inr a) = let r = any_one P xs a in (r.0, (inr r.1.0, r.1.1))

-- a target of a source, and the connection there
pub target_from : (cs : List Connection) (s t : End) → Among t (targets cs s) → Any (λ c. (c.source ≡ s) × (c.target ≡ t)) cs
target_from [] s t h = absurd h
target_from (c ∷ cs) s t h =
    ⊎_elim
    (λ yes'.
    let among : Among t (c.target ∷ targets cs s) = subst (λ b. Among t (cond b (c.target ∷ targets cs s) (targets cs s))) yes' h in
    ⊎_elim (λ e. inl (same_true c.source s yes', e)) (λ rest. inr (target_from cs s t rest)) among)
    (λ no'. inr (target_from cs s t (subst (λ b. Among t (cond b (c.target ∷ targets cs s) (targets cs s))) no' h)))
    (cases_Bool (same c.source s))

pub target_to : (cs : List Connection) (s t : End) → Any (λ c. (c.source ≡ s) × (c.target ≡ t)) cs → Among t (targets cs s)
target_to [] s t h = absurd h
target_to (c ∷ cs) s t (inl (p, q)) =
    let hit = ap (same c.source) (sym p) ∙ same_same c.source in
    subst (λ b. Among t (cond b (c.target ∷ targets cs s) (targets cs s))) (sym hit) (inl q)
target_to (c ∷ cs) s t (inr h) =
    let rest = target_to cs s t h in
    ⊎_elim
    (λ yes'. subst (λ b. Among t (cond b (c.target ∷ targets cs s) (targets cs s))) (sym yes') (inr rest))
    (λ no'. subst (λ b. Among t (cond b (c.target ∷ targets cs s) (targets cs s))) (sym no') rest)
    (cases_Bool (same c.source s))

pub any_weaker : {X : Type 0} (P Q : X → Type 0) → ((x : X) → P x → Q x) → (xs : List X) → Any P xs → Any Q xs
any_weaker P Q f [] h = h
any_weaker P Q f (x ∷ xs) (inl p) = inl (f x p)
any_weaker P Q f (x ∷ xs) (inr h) = inr (any_weaker P Q f xs h)

module _ {M : Type 0} (net : Network) (card : ℕ → ℕ → List (Entry M)) (n m : ℕ) where
  pub leads_from : Leads net card n m → Any (Carries (card (n / 8) (n % 8)) (n / 8) m) net.connections
  leads_from h =
      any_weaker _ _
      (λ c p. record { source = record { output = h.output; is = p.0; counted = any_from (λ e. 1 ≤ count e h.output) h.entry (card (n / 8) (n % 8)) h.listed (omega (arith, h.counted)) }; target = p.1 })
      net.connections (target_from net.connections (Inside (n / 8) h.output) (Inside (m / 8) (m % 8)) h.connected)

  pub leads_to : Any (Carries (card (n / 8) (n % 8)) (n / 8) m) net.connections → Leads net card n m
  leads_to h =
      let one = any_one (Carries (card (n / 8) (n % 8)) (n / 8) m) net.connections h in
      let carries = one.1.1 in
      let o = carries.source.output in
      let entry = any_one (λ e. 1 ≤ count e o) (card (n / 8) (n % 8)) carries.source.counted in
      record {
        entry = entry.0;
        listed = entry.1.0;
        output = o;
        counted = omega (arith, entry.1.1);
        connected = target_to net.connections (Inside (n / 8) o) (Inside (m / 8) (m % 8)) (any_from _ one.0 net.connections one.1.0 (carries.source.is, carries.target));
      }

pub inside_port : {i f j g : ℕ} → Inside i f ≡ Inside j g → f ≡ g
inside_port {i} {f} {j} {g} e = cc

module _ {M : Type 0} (net : Network) (card : ℕ → ℕ → List (Entry M)) (i f : ℕ) where
  pub full_from : Full net card i f → Any (λ c. SendsOn 255 (card i f) i c.source) net.connections
  full_from h =
      any_weaker _ _
      (λ c p. record { output = h.output; is = p.0; counted = any_from (λ e. 255 ≤ count e h.output) h.entry (card i f) h.listed (omega (arith, h.counted)) })
      net.connections (target_from net.connections (Inside i h.output) h.connected.0 h.connected.1)

  pub full_to : Any (λ c. SendsOn 255 (card i f) i c.source) net.connections → Full net card i f
  full_to h =
      let one = any_one (λ c. SendsOn 255 (card i f) i c.source) net.connections h in
      let sends = one.1.1 in
      let o = sends.output in
      let entry = any_one (λ e. 255 ≤ count e o) (card i f) sends.counted in
      record {
        entry = entry.0;
        listed = entry.1.0;
        output = o;
        counted = omega (arith, entry.1.1, entry.0.counts.bytes o);
        connected = (one.0.target, target_to net.connections (Inside i o) one.0.target (any_from _ one.0 net.connections one.1.0 (sends.is, refl)));
      }

-- what is led to is a place
pub leads_node : {M : Type 0} (net : Network) (card : ℕ → ℕ → List (Entry M)) → Named net → (n m : ℕ) → Leads net card n m → Node net m
leads_node net card named n m h = among_all (Target net) (Inside (m / 8) (m % 8)) (targets net.connections (Inside (n / 8) h.output)) (source_targets net named (Inside (n / 8) h.output)) h.connected

-- whether a source has targets
pub some_targets : (cs : List Connection) (s : End) → Decides (has_some (targets cs s)) (Any (λ c. c.source ≡ s) cs)
some_targets [] s = (λ e. absurd (clash e), λ none. absurd none)
some_targets (c ∷ cs) s =
    let rest = some_targets cs s in
    ⊎_elim
    (λ yes'. (λ _. inl (same_true c.source s yes'), λ _. ap (λ b. has_some (cond b (c.target ∷ targets cs s) (targets cs s))) yes'))
    (λ no'.
    let on = ap (λ b. has_some (cond b (c.target ∷ targets cs s) (targets cs s))) no' in (
      λ e. inr (rest.0 (sym on ∙ e)),
      λ h. ⊎_elim (λ here. absurd (clash (sym no' ∙ sym (ap (same c.source) here) ∙ same_same c.source))) (λ there. on ∙ rest.1 there) h,
    ))
    (cases_Bool (same c.source s))

-- one that stands in the list, as one of which something holds
pub among_any : {X : Type 0} (x : X) (xs : List X) → Among x xs → Any (λ y. y ≡ x) xs
among_any x xs h = any_from (λ y. y ≡ x) x xs h refl

pub any_among : {X : Type 0} (x : X) (xs : List X) → Any (λ y. y ≡ x) xs → Among x xs
any_among x xs h = let r = any_one (λ y. y ≡ x) xs h in subst (λ y. Among y xs) r.1.1 r.1.0

-- the derived comparison is the same test
pub derived_end : (a b : End) → (of_end.TheImpl.ghosts).eq a b ≡ same a b
derived_end (Outside p) (Outside q) = refl
derived_end (Outside p) (Inside j g) = refl
derived_end (Inside i f) (Outside q) = refl
derived_end (Inside i f) (Inside j g) = refl

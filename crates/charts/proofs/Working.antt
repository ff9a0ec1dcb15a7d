-- One state, or one event, more in the rows. Assumes nothing.
use Rattle.std.proofs.Common.{◌≡◌, ℕ, zero, suc, ◌+◌, ◌-◌, ◌*◌, ◌<◌, ◌≤◌, List, [], ◌∷◌, ◌++◌, length, get_or, take, drop, sym, refl, ap, ◌∙◌, subst, inl, inr, ⊎_elim, arith}
use Rattle.std.proofs.ByRecursion.{has_push_cases}
use Rattle.std.proofs.lemmas.Bool.{cases_eq}
use Rattle.costs.specs.Amounts.{Amounts}
use Rattle.costs.specs.declared.entry.Entry.{Entry}
use Rattle.sheets.specs.Sheets.{Sheet}
use Rattle.sheets.specs.declared.words.Kind.TheVariants.{Basic}
use Rattle.costs.specs.Forming.{Formation, list, long, Reduces}
use Rattle.charts.specs.Forming.{Outcome, made, stops}
use Rattle.charts.specs.Charts.{state_cost, frees}
use Rattle.charts.specs.Cards.{put, no_lists, StateList, EventList, EventBy, Events, States, BasicCard}
use Rattle.costs.specs.Lent.{list_at, Stored}
use Rattle.charts.specs.Refusals.{lists_at}
use Rattle.charts.specs.Rows.{Working, Listing}
use Rattle.charts.proofs.Dests.{joined_same}
use Rattle.charts.proofs.Steps.{after_on}
use Rattle.charts.proofs.Segments.{lists_more, lists_same}
use Rattle.charts.proofs.Tables.{put_here, put_other, list_same}

-- what each event comes to, said otherwise
pub events_as : {X : Type 0} (P Q : ℕ → Formation X → Type 0) → ((e : ℕ) (o : Formation X) → P e o → Q e o) → (n e : ℕ) (done : List (List X)) (o : Outcome X) → Events P n e done o → Events Q n e done o
events_as P Q to zero e done o h = h
events_as P Q to (suc n) e done (made ls) (xs, (p, rest)) = (xs, (to e (list xs) p, events_as P Q to n (e + 1) (done ++ xs ∷ []) (made ls) rest))
events_as P Q to (suc n) e done (stops q) (inl (p, is)) = inl (to e long p, is)
events_as P Q to (suc n) e done (stops q) (inr (xs, (p, rest))) = inr (xs, (to e (list xs) p, events_as P Q to n (e + 1) (done ++ xs ∷ []) (stops q) rest))

module _ {X : Type 0} (P : ℕ → Formation X → Type 0) (all e : ℕ) (z : X) (rows : List X) (lens : List ℕ) (was : Listing P all e z rows lens) (below : e < all) where
  left : all - e ≡ suc (all - (e + 1))
  left = omega arith

  pub listing_stop : P e long → Events P all 0 [] (stops (256 + e))
  listing_stop p = was.more (stops (256 + e)) (subst (λ n. Events P n e (lists_at rows lens e 0) (stops (256 + e))) (sym left) (inl (p, refl)))

  pub listing_more : (xs : List X) (rows' : List X) (lens' : List ℕ) → P e (list xs) → Stored (λ es. es ≡ xs) e rows lens rows' lens' → Listing P all (e + 1) z rows' lens'
  listing_more xs rows' lens' p stored =
      let same : lists_at rows' lens' (e + 1) 0 ≡ lists_at rows lens e 0 ++ xs ∷ [] =
      lists_more rows' lens' e 0
      ∙ ap (λ l. l ++ list_at rows' lens' (0 + e) ∷ []) (lists_same rows' rows lens' lens e 0 (λ t low high. stored.others t (λ is. omega (arith, is, high))))
      ∙ ap (λ l. lists_at rows lens e 0 ++ l ∷ []) (let at : 0 + e ≡ e = omega arith in ap (list_at rows' lens') at ∙ stored.result) in
      record {
        lent = stored.lent;
        padded = λ k j past low.
            ⊎_elim
            (λ is. stored.rest (16 * k + j) z (λ from to. omega (arith, ap (λ i. get_or lens' i 0) is, past)) ∙ was.padded k j (omega (arith, was.unused k (omega arith))) low)
            (λ apart. stored.rest (16 * k + j) z (λ from to. apart (omega (arith, stored.lent.short e))) ∙ was.padded k j (omega (arith, stored.lengths k apart)) low)
            (cases_eq k e);
        unused = λ d h. stored.lengths d (λ is. omega (arith, is)) ∙ was.unused d (omega arith);
        more = λ o h. was.more o (subst (λ n. Events P n e (lists_at rows lens e 0) o) (sym left)
            (after_on (P e) (256 + e) (λ ys. Events P (all - (e + 1)) (e + 1) (lists_at rows lens e 0 ++ ys ∷ [])) xs p o (subst (λ l. Events P (all - (e + 1)) (e + 1) l o) same h)));
      }

module _ {M : Type 0} (ops : Amounts M) (meant : List ℕ → M) (gives : List (Entry M) → List (Entry M) → Type 0) (sheet : Sheet) where
  -- the lists of events over tables that agree
  pub event_same : (T V : ℕ → List (Entry M)) → ((t : ℕ) → T t ≡ V t) → (ds : List ℕ) (o : Formation (Entry M)) → EventList ops gives T ds o → EventList ops gives V ds o
  event_same T V same [] o h = h
  event_same T V same (d ∷ ds) o h = subst (λ l. Reduces gives l o) (joined_same T V (d ∷ ds) (λ x m. same x)) h

  abbrev StateOf : (ℕ → List (Entry M)) → ℕ → Formation (Entry M) → Type 0
  StateOf T s = StateList ops gives T (state_cost ops meant sheet s) (frees sheet s)

  abbrev Rest : (ℕ → List (Entry M)) → Outcome (Entry M) → Type 0
  Rest T = Events (EventBy ops meant gives sheet Basic T) sheet.face.inputs 0 []

  pub working_none : (ws : List ℕ) (rows : List (Entry M)) (lens : List ℕ) → 16 * length lens ≤ length rows → ((t : ℕ) → get_or lens t 0 ≡ 0) → Working ops meant gives sheet ws [] ws rows lens
  working_none ws rows lens room fresh = record {
    lent = record { room = room; short = λ k. omega (arith, fresh k) };
    filled = λ s h. absurd (omega (arith, h.1));
    table = no_lists;
    same = λ t. sym (ap (λ n. take n (drop (16 * t) rows)) (fresh t));
    more = λ o h. h;
  }

  module _ (ws done ss : List ℕ) (s : ℕ) (rows : List (Entry M)) (lens : List ℕ) (was : Working ops meant gives sheet ws done (s ∷ ss) rows lens) where
    over_table : (o : Formation (Entry M)) → StateOf (list_at rows lens) s o → StateOf was.table s o
    over_table o = list_same ops meant gives sheet (list_at rows lens) was.table (state_cost ops meant sheet s) (frees sheet s) o (λ d m. sym (was.same d))

    pub working_stop : StateOf (list_at rows lens) s long → BasicCard ops meant gives sheet ws (stops s)
    working_stop h = was.more (stops s) (inl (over_table long h, refl))

    pub working_more : (xs rows' : List (Entry M)) (lens' : List ℕ) → StateOf (list_at rows lens) s (list xs) → Stored (λ es. es ≡ xs) s rows lens rows' lens' → Working ops meant gives sheet ws (done ++ s ∷ []) ss rows' lens'
    working_more xs rows' lens' h stored = record {
      lent = stored.lent;
      filled = λ t has. ⊎_elim
          (λ is. subst (λ k. 1 ≤ get_or lens' k 0) (sym is) stored.worked)
          (λ apart. ⊎_elim (λ old. omega (arith, stored.lengths t apart, was.filled t old)) (λ new. absurd (apart (sym new))) (has_push_cases done s t has))
          (cases_eq t s);
      table = put was.table s xs;
      same = λ t. ⊎_elim
          (λ is. subst (λ k. put was.table s xs k ≡ list_at rows' lens' k) (sym is) (put_here was.table s xs ∙ sym stored.result))
          (λ apart. put_other was.table s xs t apart ∙ was.same t ∙ sym (stored.others t apart))
          (cases_eq t s);
      more = λ o rest. was.more o (after_on (StateOf was.table s) s (λ ys. States ops meant gives sheet ss (put was.table s ys) Rest) xs (over_table (list xs) h) o rest);
    }

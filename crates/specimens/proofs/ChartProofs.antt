-- The worked cases of basic blocks. Assumes nothing.
use Rattle.std.proofs.Common.{◌≡◌, ℕ, zero, suc, ◌<◌, ◌⊎◌, List, [], ◌∷◌, get_or, Some, None, sym, refl, ap, ◌∙◌, subst, inl, inr, ⊎_elim, arith}
use Rattle.std.specs.List.{ContainsAt as Has}
use Rattle.std.proofs.ByRecursion.{has_push_cases}
use Rattle.costs.specs.Amounts.{Amounts}
use Rattle.costs.specs.Entries.{entry_ops}
use Rattle.costs.specs.Forming.{list}
use Rattle.costs.specs.Measures.{ticks_ops, ticks_meant}
use Rattle.costs.specs.Reducers.{kept}
use Rattle.costs.specs.declared.entry.Entry.{Entry}
use Rattle.order.specs.Order.{Ready, Order, Complete}
use Rattle.sheets.specs.Frames.{fields}
use Rattle.sheets.specs.Sheets.{Sheet, sheet_of}
use Rattle.sheets.specs.declared.words.Kind.TheVariants.{Basic}
use Rattle.charts.specs.Forming.{Outcome, made}
use Rattle.charts.specs.Charts.{state_cost, guarded, State, Leads}
use Rattle.charts.specs.Cards.{put, no_lists, EventList, Events, States}
use Rattle.charts.specs.Evaluation.{basic_card}
use Rattle.charts.proofs.Evaluating.{basic_is}
use Rattle.charts.proofs.Tables.{events_listed}
use Rattle.specimens.specs.ChartCases.{written, lists_shown, Gives, NothingGuarded, branching, TwoBranches, example, ExampleSheet}
use Rattle.specimens.proofs.Evaluated.{basic_forms}

module _ {M : Type 0} (ops : Amounts M) (meant : List ℕ → M) (gives : List (Entry M) → List (Entry M) → Type 0) where
  -- the table that the states end in
  last_table : (sheet : Sheet) (Rest : (ℕ → List (Entry M)) → Outcome (Entry M) → Type 0) (ws : List ℕ) (T : ℕ → List (Entry M)) (ls : List (List (Entry M))) → States ops meant gives sheet ws T Rest (made ls) → (V : ℕ → List (Entry M)) × Rest V (made ls)
  last_table sheet Rest [] T ls h = (T, h)
  last_table sheet Rest (s ∷ ss) T ls (xs, (h, more)) = last_table sheet Rest ss (put T s xs) ls more

  pub nothing_guarded : NothingGuarded ops meant gives
  nothing_guarded sheet ws ls h e below none =
      let t = last_table sheet (λ T. Events (λ f. EventList ops gives T (guarded sheet f)) sheet.face.inputs 0 []) ws no_lists ls h in
      let listed = events_listed (λ f. EventList ops gives t.0 (guarded sheet f)) sheet.face.inputs 0 [] ls refl t.1 in
      subst (λ ds. EventList ops gives t.0 ds (list (get_or ls e []))) none (listed.after e (omega arith) (omega arith))

-- a card by its plain function
by_function : (sheet : Sheet) (ws : List ℕ) (answer : List (List (ℕ × List ℕ))) → Complete (State sheet) (Leads sheet) ws → lists_shown (basic_card ticks_ops ticks_meant (kept (entry_ops ticks_ops)) sheet ws) ≡ answer → Gives sheet ws answer
by_function sheet ws answer complete is = record {
  order = complete;
  formed = (basic_card ticks_ops ticks_meant (kept (entry_ops ticks_ops)) sheet ws, basic_forms ticks_ops ticks_meant (kept (entry_ops ticks_ops)) sheet ws);
  exactly = λ o h. ap lists_shown (basic_is ticks_ops ticks_meant (kept (entry_ops ticks_ops)) (λ given result e. e) sheet ws o h) ∙ is;
}

none : (t : ℕ) → Has [] t → ⊥
none t h = omega (arith, h.1)

has_first : (s : ℕ) (ws : List ℕ) → Has (s ∷ ws) s
has_first s ws = (0, omega arith, λ d. refl)

has_second : (s t : ℕ) (ws : List ℕ) → Has (t ∷ s ∷ ws) s
has_second s t ws = (1, omega arith, λ d. refl)

has_third : (s t u : ℕ) → Has (u ∷ t ∷ s ∷ []) s
has_third s t u = (2, omega arith, λ d. refl)

only : (s t : ℕ) → Has (s ∷ []) t → s ≡ t
only s t h = ⊎_elim (λ h'. absurd (none t h')) (λ e. e) (has_push_cases [] s t h)

either : (s t u : ℕ) → Has (s ∷ t ∷ []) u → (s ≡ u) ⊎ (t ≡ u)
either s t u h = ⊎_elim (λ h'. inl (only s u h')) inr (has_push_cases (s ∷ []) t u h)

first_lowest : (t : ℕ) → t < 1 → Ready (Leads branching) (Has []) t → ⊥
first_lowest zero below ready = none 1 (ready 1 (inl refl))
first_lowest (suc t) below ready = absurd (omega arith)

second_lowest : (t : ℕ) → t < 2 → (Has (1 ∷ []) t → ⊥) → Ready (Leads branching) (Has (1 ∷ [])) t → ⊥
second_lowest zero below un ready = let e = only 1 2 (ready 2 (inr (inl refl))) in omega (arith, e)
second_lowest (suc zero) below un ready = un (has_first 1 [])
second_lowest (suc (suc t)) below un ready = absurd (omega arith)

third_ready : (d : ℕ) → Leads branching 0 d → Has (1 ∷ 2 ∷ []) d
third_ready d (inl e) = subst (Has (1 ∷ 2 ∷ [])) e (has_first 1 (2 ∷ []))
third_ready d (inr (inl e)) = subst (Has (1 ∷ 2 ∷ [])) e (has_second 2 1 [])
third_ready d (inr (inr h)) = absurd h

branching_order : Order (State branching) (Leads branching) (1 ∷ 2 ∷ 0 ∷ [])
branching_order zero within = record { node = omega arith; unworked = none 1; ready = λ d led. absurd led; lowest = λ t below node un ready. first_lowest t below ready }
branching_order (suc zero) within =
    record { node = omega arith; unworked = λ h. let e = only 1 2 h in omega (arith, e); ready = λ d led. absurd led; lowest = λ t below node un ready. second_lowest t below un ready }
branching_order (suc (suc zero)) within =
    record { node = omega arith; unworked = λ h. ⊎_elim (λ e. omega (arith, e)) (λ e. omega (arith, e)) (either 1 2 0 h); ready = third_ready; lowest = λ t below. absurd (omega arith) }
branching_order (suc (suc (suc k))) within = absurd (omega arith)

branching_all : (t : ℕ) → State branching t → Has (1 ∷ 2 ∷ 0 ∷ []) t
branching_all zero node = has_third 0 2 1
branching_all (suc zero) node = has_first 1 (2 ∷ 0 ∷ [])
branching_all (suc (suc zero)) node = has_second 2 1 (0 ∷ [])
branching_all (suc (suc (suc t))) node = absurd (omega arith)

pub two_branches : TwoBranches
unfolding kept state_cost
two_branches = by_function branching (1 ∷ 2 ∷ 0 ∷ []) _ (record { order = branching_order; all = branching_all }) refl

-- what the example's bytes say
abbrev said : Sheet
said = record {
  face = record { kind = Basic; inputs = 1; outputs = 1 };
  amounts = (0 ∷ 0 ∷ 0 ∷ 7 ∷ []) ∷ [];
  states = [] ∷ (record { algorithm = Some 0; output = Some 0 } ∷ []) ∷ [];
  transitions = record { source = 0; destination = 1; event = Some 0 } ∷ record { source = 1; destination = 0; event = None } ∷ [];
  entries = [];
  instances = [];
  connections = [];
}

says_so : sheet_of 4 example ≡ said
unfolding sheet_of fields
says_so = refl

said_ready : (d : ℕ) → Leads said 1 d → Has (0 ∷ []) d
said_ready d (inl e) = subst (Has (0 ∷ [])) e (has_first 0 [])
said_ready d (inr h) = absurd h

said_lowest : (t : ℕ) → t < 1 → (Has (0 ∷ []) t → ⊥) → ⊥
said_lowest zero below un = un (has_first 0 [])
said_lowest (suc t) below un = absurd (omega arith)

said_order : Order (State said) (Leads said) (0 ∷ 1 ∷ [])
said_order zero within = record { node = omega arith; unworked = none 0; ready = λ d led. absurd led; lowest = λ t below. absurd (omega arith) }
said_order (suc zero) within = record { node = omega arith; unworked = λ h. let e = only 0 1 h in omega (arith, e); ready = said_ready; lowest = λ t below node un ready. said_lowest t below un }
said_order (suc (suc k)) within = absurd (omega arith)

said_all : (t : ℕ) → State said t → Has (0 ∷ 1 ∷ []) t
said_all zero node = has_first 0 (1 ∷ [])
said_all (suc zero) node = has_second 1 0 []
said_all (suc (suc t)) node = absurd (omega arith)

pub example_sheet : ExampleSheet
unfolding kept state_cost
example_sheet = subst (λ sheet. Gives sheet (0 ∷ 1 ∷ []) ((written 7 1 ∷ []) ∷ [])) (sym says_so) (by_function said (0 ∷ 1 ∷ []) ((written 7 1 ∷ []) ∷ []) (record { order = said_order; all = said_all }) refl)

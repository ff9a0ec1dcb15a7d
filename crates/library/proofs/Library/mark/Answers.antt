-- One row more is marked as it should be.
use Rattle.std.proofs.Common.{◌≡◌, ℕ, ◌+◌, Bool, true, ◌⊎◌, List, set, sym, ap, ◌∙◌, subst, ap₂, inl, inr, arith}
use Rattle.std.proofs.lemmas.List.{get_or_default, length-set}
use Rattle.library.specs.Lent.{SameTables}
use Rattle.library.specs.Marks.{leans, kept_names, with_mark}
use Rattle.library.specs.Tables.{no_row, row_at}
use Rattle.library.specs.declared.Library.{Library}
use Rattle.library.specs.declared.row.Row.{Row}
use Rattle.library.proofs.Marks.{Marking, marking_skip, marking_set}
use Rattle.library.proofs.Library.mark.Goals as goal
use Rattle.library.proofs.Library.mark.Goals.{then-n-block, then-n-block-via-then-n-block, then-n-block-via-else-n-block+then-leans_on, else-n-block+else-leans_on}

pub loop-n-preserved : goal.loop-n-preserved
loop-n-preserved g c =
    let l = c.loop-n in
    let n = l.n in
    let W = g.M.Measure.wide in
    let shelf = c.args.self.now.shelf.now in
    let before = c.args.self.now.index.now in
    let index = l.self.index.now in
    let names = kept_names W shelf in
    let by_row : Row → Bool = λ r. leans index n (names r) in
    let same : leans index n (names (row_at before n)) ≡ leans index n (names (row_at index n)) = ap by_row (sym (l.invariant.3.past n (omega arith))) in
    let Good : Library g.row.M.Denot → Type 0 =
    λ z. SameTables c.args.self.now z × (z.shelf.now ≡ shelf) × (z.cards.now ≡ c.args.self.now.cards.now) × Marking W shelf c.args.block (n + 1) before z.index.now in
    let by_tables : List ℕ → List Row → Bool = λ s i. leans i n (kept_names W s (row_at i n)) in
    elim c.if-n-block.branch [
      | then-n-block w ↦
          let why : (n ≡ c.args.block) ⊎ (leans index n (names (row_at before n)) ≡ true) =
          elim w.then-n-block.branch [
            | then-n-block-via-then-n-block v ↦ inl v.if-n-block.true
            | then-n-block-via-else-n-block+then-leans_on v ↦
                inr (same ∙ sym (ap₂ by_tables (v.kept.ensures.shelf ∙ l.invariant.1) v.kept.ensures.index) ∙ sym v.leans_on.ensures ∙ v.if-leans_on.true)
          ] in
          let T = l.invariant.0 in
          subst Good (sym w.self-is) (
            record { shelf = T.shelf; index = T.index; cards = T.cards; shelf_length = T.shelf_length; index_length = length-set index n _ ∙ T.index_length; cards_length = T.cards_length },
            l.invariant.1,
            l.invariant.2,
            subst (Marking W shelf c.args.block (n + 1) before) (sym (ap (λ (r : Row). set index n (with_mark r true)) (get_or_default index n _ no_row (omega arith))))
                (marking_set _ _ _ n _ _ l.invariant.3 (omega arith) why),
          )
      | else-n-block+else-leans_on w ↦
          subst Good (sym w.self-is) (
            l.invariant.0,
            l.invariant.1,
            l.invariant.2,
            marking_skip _ _ _ n _ _ l.invariant.3 w.if-n-block.false
                (same ∙ sym (ap₂ by_tables (w.kept.ensures.shelf ∙ l.invariant.1) w.kept.ensures.index) ∙ sym w.leans_on.ensures ∙ w.if-leans_on.false),
          )
    ]

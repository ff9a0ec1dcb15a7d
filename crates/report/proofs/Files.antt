-- One sheet more of a file, and where its reading ends. Assumes nothing.
use Rattle.std.proofs.Common.{◌≡◌, ◌≢◌, ℕ, List, [], ◌∷◌, ◌++◌, length, sym, ap, ◌∙◌, append_assoc, append-nil}
use Rattle.std.proofs.lemmas.Bool.{cond-true, cond-false, eq-eqb, ne_eqb}
use Rattle.sheets.specs.Frames.{Raw, laid}
use Rattle.sheets.specs.Parts.{raw}
use Rattle.sheets.specs.Places.{place}
use Rattle.sheets.specs.declared.fields.Placed.{Placed}
use Rattle.sheets.proofs.Walk.{Next, next, none_left}
use Rattle.report.specs.Lines.{answer_of, lines_from, lines_of}
use Rattle.report.specs.declared.line.Line.{Line}
use Rattle.report.specs.declared.line.Line.TheVariants.{Fault}

-- the lines so far are of the fields before `end`, and those that are left, each with its offset, say the others
pub record Told (w : ℕ) (bs : List ℕ) (left : List (ℕ × Raw)) (end : ℕ) (lines : List Line) : Type 0 where
  pub more : List Raw
  pub is : laid end more ≡ left
  pub all : lines ++ lines_from w (length bs) end more ≡ lines_of w bs

module _ (w : ℕ) (bs : List ℕ) (left : List (ℕ × Raw)) (end : ℕ) (lines : List Line) (so : Told w bs left end lines) where
  module _ (x : Placed) (rest : List (ℕ × Raw)) (gives : left ≡ place x ∷ rest) where
    t : Next end so.more x rest
    t = next end so.more x rest (so.is ∙ gives)

    pub sheet_more : (y : Line) (now : List Line) → x.part.tag ≡ 9 → y ≡ answer_of w (raw x.part).content → now ≡ lines ++ y ∷ [] → Told w bs rest x.end now
    sheet_more y now nine is added =
        let others = lines_from w (length bs) x.end t.after in
        record {
          more = t.after;
          is = sym t.left;
          all =
              ap (λ l. l ++ others) added ∙ append_assoc lines (y ∷ []) others
              ∙ ap (λ z. lines ++ (z ∷ others)) is
              ∙ ap (λ n. lines ++ (answer_of w (raw x.part).content ∷ lines_from w (length bs) n t.after)) t.end
              ∙ ap (λ l. lines ++ l) (sym (ap (lines_from w (length bs) end) t.is ∙ cond-true _ _ _ (eq-eqb x.part.tag 9 nine)))
              ∙ so.all;
        }

    pub other_tag : x.part.tag ≢ 9 → lines ++ Fault x.at ∷ [] ≡ lines_of w bs
    other_tag other =
        ap (λ n. lines ++ Fault n ∷ []) t.here
        ∙ ap (λ l. lines ++ l) (sym (ap (lines_from w (length bs) end) t.is ∙ cond-false _ _ _ (ne_eqb x.part.tag 9 other)))
        ∙ so.all

  module _ (none : left ≡ []) where
    ended : lines ++ lines_from w (length bs) end [] ≡ lines_of w bs
    ended = ap (λ fs. lines ++ lines_from w (length bs) end fs) (sym (none_left end so.more (so.is ∙ none))) ∙ so.all

    pub whole : end ≡ length bs → lines ≡ lines_of w bs
    whole e = sym (append-nil lines) ∙ ap (λ l. lines ++ l) (sym (cond-true _ _ _ (eq-eqb end (length bs) e))) ∙ ended

    pub cut : end ≢ length bs → lines ++ Fault end ∷ [] ≡ lines_of w bs
    cut e = ap (λ l. lines ++ l) (sym (cond-false _ _ _ (ne_eqb end (length bs) e))) ∙ ended

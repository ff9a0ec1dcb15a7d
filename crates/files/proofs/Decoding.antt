-- One field more of a file, and the rows of one call more. Assumes nothing.
use Rattle.std.proofs.Common.{◌≡◌, ℕ, ◌+◌, ◌-◌, ◌^◌, List, [], ◌∷◌, ◌++◌, map, Some, None, sym, ap, subst, ◌∙◌, append_assoc, append-nil, arith}
use Rattle.std.proofs.lemmas.List.{map_push}
use Rattle.sheets.specs.Frames.{Raw, size, fields, laid}
use Rattle.sheets.specs.Parts.{raw}
use Rattle.sheets.specs.Places.{place}
use Rattle.sheets.specs.declared.fields.Placed.{Placed}
use Rattle.sheets.proofs.Walk.{Next, next, none_left}
use Rattle.library.specs.Calls.{taken}
use Rattle.library.specs.declared.calls.Call.{Call}
use Rattle.files.specs.declared.form.Form.{Form}
use Rattle.files.specs.Files.{Made, made_of, call_of, then_calls, calls_of, then_end, end_of, rows_asked}

-- these calls are those of the fields before `end`, and the fields that are left, each with its offset, make the others
pub record Read (form : Form) (bs : List ℕ) (left : List (ℕ × Raw)) (end : ℕ) (calls : List Made) : Type 0 where
  pub more : List Raw
  pub is : laid end more ≡ left
  pub all : calls ++ calls_of form more ≡ calls_of form (fields bs)
  pub ends : end_of form end more ≡ end_of form 0 (fields bs)

module _ (form : Form) (bs : List ℕ) (left : List (ℕ × Raw)) (end : ℕ) (so : List Call) (read : Read form bs left end (map made_of so)) where
  module _ (x : Placed) (rest : List (ℕ × Raw)) (gives : left ≡ place x ∷ rest) where
    t : Next end read.more x rest
    t = next end read.more x rest (read.is ∙ gives)

    -- where the field ends
    pub field_end : x.end ≡ end + size (raw x.part)
    field_end = t.end

    -- the calls with this one, up to the offset that the code takes for where the field ends
    pub call_more : (call : Call) (now : List Call) (at : ℕ) → Some (made_of call) ≡ call_of form (raw x.part) → now ≡ so ++ call ∷ [] → x.end ≡ at → Read form bs rest at (map made_of now)
    call_more call now at makes added ends =
        let others = calls_of form t.after in
        subst (λ n. Read form bs rest n (map made_of now)) ends record {
          more = t.after;
          is = sym t.left;
          all =
              ap (λ l. map made_of l ++ others) added ∙ ap (λ l. l ++ others) (map_push made_of so call) ∙ append_assoc (map made_of so) (made_of call ∷ []) others
              ∙ ap (λ l. map made_of so ++ l) (ap (λ o. then_calls o others) makes ∙ sym (ap (calls_of form) t.is))
              ∙ read.all;
          ends =
              ap (λ n. end_of form n t.after) t.end
              ∙ ap (λ o. then_end o end (end_of form (end + size (raw x.part)) t.after)) makes
              ∙ sym (ap (end_of form end) t.is)
              ∙ read.ends;
        }

    module _ (stops : None ≡ call_of form (raw x.part)) where
      pub calls_stop : map made_of so ≡ calls_of form (fields bs)
      calls_stop =
          sym (append-nil (map made_of so)) ∙ ap (λ l. map made_of so ++ l) (ap (λ o. then_calls o (calls_of form t.after)) stops ∙ sym (ap (calls_of form) t.is)) ∙ read.all

      pub end_stop : end ≡ end_of form 0 (fields bs)
      end_stop = ap (λ o. then_end o end (end_of form (end + size (raw x.part)) t.after)) stops ∙ sym (ap (end_of form end) t.is) ∙ read.ends

  module _ (none : left ≡ []) where
    nothing : read.more ≡ []
    nothing = none_left end read.more (read.is ∙ none)

    pub calls_all : map made_of so ≡ calls_of form (fields bs)
    calls_all = sym (append-nil (map made_of so)) ∙ ap (λ fs. map made_of so ++ calls_of form fs) (sym nothing) ∙ read.all

    pub end_all : end ≡ end_of form 0 (fields bs)
    end_all = ap (end_of form end) (sym nothing) ∙ read.ends

pub rows_asked_push : (so : List Call) (call : Call) → rows_asked (so ++ call ∷ []) ≡ rows_asked so + taken (2 ^ 64 - 1) call
rows_asked_push [] call = omega arith
rows_asked_push (x ∷ so) call = omega (arith, rows_asked_push so call)

-- The parts of a session put together, and its law with no premise left. Assumes nothing.
use Rattle.std.proofs.Common.{◌≡◌, ℕ, ◌-◌, ◌^◌, min, List, map, length, take, Result, IfOk, subst, arith}
use Rattle.std.proofs.lemmas.List.{take_all}
use Rattle.std.proofs.lemmas.Result.{IfOk-weaker}
use Rattle.costs.specs.Lists.{Selects}
use Rattle.costs.specs.declared.entry.Entry.{Entry}
use Rattle.library.specs.Books.{Rules, Book}
use Rattle.library.specs.Calls.{asks, replies, Answer}
use Rattle.library.specs.Checks.{Sizes}
use Rattle.library.specs.Law.{Sound}
use Rattle.library.specs.Memory.{Stands}
use Rattle.library.specs.Steps.{History}
use Rattle.library.specs.Theorems.{Fixed}
use Rattle.library.specs.declared.calls.Call.{Call}
use Rattle.library.specs.declared.row.Row.{Row}
use Rattle.sheets.specs.Frames.{fields}
use Rattle.files.specs.Files.{made_of, calls_of, end_of, rows_asked, room_of}
use Rattle.files.specs.Laws.{Lawful}
use Rattle.files.specs.Printing.{file_lines, Carried, Printed, PrintedLawfully}
use Rattle.files.specs.declared.form.Form.{Form}

module _ {M : Type 0} {rules : Rules M} {spelt : M → List ℕ} {form : Form} {sizes : Sizes} {rows lent : ℕ} {calls : List Call} {end total : ℕ} {text : List ℕ} where
  -- all calls were made, for there is an answer to each
  pub all_carried : (answers : List Answer) (out : List (Entry M)) {n : ℕ} {shelf : List ℕ} {index : List Row} {cards : List (Entry M)} → n ≡ min (length calls) (length answers) → length answers ≡ length calls
      → ((b : Book M) × (History rules sizes (asks rows lent (take n calls)) (replies (take n calls) (take n answers) out) b × (Stands rules b shelf index cards × Sound rules b index cards)))
      → ((b : Book M) → Stands rules b shelf index cards → Fixed rules b) → text ≡ file_lines spelt rules.wide form end total calls answers out index cards → Carried rules spelt form sizes rows lent calls end total text
  all_carried answers out {n} {shelf} {index} {cards} count same (b, (history, (stands, sound))) fixed text_is = record {
    answers = answers;
    out = out;
    book = b;
    history =
        subst (λ z. History rules sizes (asks rows lent calls) (replies calls z out) b) (take_all n answers (omega arith))
        (subst (λ z. History rules sizes (asks rows lent z) (replies z (take n answers) out) b) (take_all n calls (omega arith)) history);
    shelf = shelf;
    index = index;
    cards = cards;
    stands = stands;
    sound = sound;
    fixed = fixed b stands;
    text_is = text_is;
  }

-- in tables of these sizes, with so many rows lent, and so far read
pub carried_in : {M : Type 0} {rules : Rules M} {spelt : M → List ℕ} {form : Form} {sizes room : Sizes} {rows lent end rows' lent' end' : ℕ} (calls : List Call) (total : ℕ) (text : List ℕ) → sizes ≡ room → rows ≡ rows' → lent ≡ lent' → end ≡ end'
    → Carried rules spelt form sizes rows lent calls end total text → Carried rules spelt form room rows' lent' calls end' total text
carried_in {rules = rules} {spelt} {form} {sizes} {room} {rows} {lent} {end} {rows'} {lent'} calls total text p q r s h =
    subst (λ z. Carried rules spelt form room rows' lent' calls z total text) s
    (subst (λ z. Carried rules spelt form room rows' z calls end total text) r
    (subst (λ z. Carried rules spelt form room z lent calls end total text) q
    (subst (λ z. Carried rules spelt form z rows lent calls end total text) p h)))

pub printed : {M : Type 0} {rules : Rules M} {spelt : M → List ℕ} {form : Form} (bytes text : List ℕ) (calls : List Call) → map made_of calls ≡ calls_of form (fields bytes)
    → Carried rules spelt form (room_of form) 3072 (min (rows_asked calls) (2 ^ 64 - 1)) calls (end_of form 0 (fields bytes)) (length bytes) text → Printed rules spelt form bytes text
printed bytes text calls asked carried = record { calls = calls; asked = asked; carried = carried }

-- where the reducer selects, tables that keep the law keep it with no premise left
pub lawful : {M : Type 0} {by : Rules M} {b : Book M} {index : List Row} {cards : List (Entry M)} → Selects by.gives → Sound by b index cards → Lawful by b index cards
lawful selects law = record { covers = law.covers; marked = law.marked; attained = law.attained selects }

-- and so what is printed comes with the law
pub printed_lawfully : {M S E : Type 0} (by : Rules M) (spelt : M → List ℕ) (form : Form) (bytes : List ℕ) (bytes_of : S → List ℕ) (r : Result S E) → Selects by.gives
    → IfOk r (λ s. Printed by spelt form bytes (bytes_of s)) → IfOk r (λ s. PrintedLawfully by spelt form bytes (bytes_of s))
printed_lawfully by spelt form bytes bytes_of r selects =
    IfOk-weaker r (λ s. Printed by spelt form bytes (bytes_of s)) (λ s. PrintedLawfully by spelt form bytes (bytes_of s)) (λ s p. (p, lawful selects p.carried.sound))

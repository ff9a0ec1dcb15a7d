-- What one field says, by its tag and content, without the bytes that it was read from. Assumes nothing.
use Rattle.std.specs.Prelude.{ℕ, cond, List, [], ◌∷◌, Some, None, Option, ◌==◌}
use Rattle.std.specs.Option.{option_map}
use Rattle.sheets.specs.Frames.{Raw}
use Rattle.sheets.specs.declared.words.Kind.{Kind}
use Rattle.sheets.specs.declared.words.Kind.TheVariants.{Basic, Service, Composite}
use Rattle.sheets.specs.declared.words.Interface.{Interface}
use Rattle.sheets.specs.declared.words.Transition.{Transition}
use Rattle.sheets.specs.declared.words.End.{End}
use Rattle.sheets.specs.declared.words.End.TheVariants.{Outside, Inside}
use Rattle.sheets.specs.declared.words.Connection.{Connection}

-- a field of a sheet, with its content as a list of bytes
pub data Said : Type 0 where
  interface : Interface → Said
  amounts : List ℕ → Said
  actions : List ℕ → Said
  transition : Transition → Said
  entry : (event : ℕ) → List ℕ → Said
  instance : ℕ → Said
  connection : Connection → Said

-- 1 basic, 2 service, 3 composite
abbrev pub kind_of : ℕ → Option Kind
kind_of k = cond (k == 1) (Some Basic) (cond (k == 2) (Some Service) (cond (k == 3) (Some Composite) None))

-- 255 stands for none
abbrev pub number_of : ℕ → Option ℕ
number_of b = cond (b == 255) None (Some b)

-- instance 255 stands for outside
abbrev pub end_of : ℕ → ℕ → End
end_of i p = cond (i == 255) (Outside p) (Inside i p)

abbrev pub interface_of : List ℕ → Option Said
interface_of [] = None
interface_of (k ∷ []) = None
interface_of (k ∷ i ∷ []) = None
interface_of (k ∷ i ∷ o ∷ []) = option_map (λ kind. interface (record { kind = kind; inputs = i; outputs = o })) (kind_of k)
interface_of (k ∷ i ∷ o ∷ x ∷ xs) = None

abbrev pub transition_of : List ℕ → Option Said
transition_of [] = None
transition_of (s ∷ []) = None
transition_of (s ∷ d ∷ []) = None
transition_of (s ∷ d ∷ e ∷ []) = Some (transition (record { source = s; destination = d; event = number_of e }))
transition_of (s ∷ d ∷ e ∷ x ∷ xs) = None

abbrev pub entry_of : List ℕ → Option Said
entry_of [] = None
entry_of (e ∷ rest) = Some (entry e rest)

abbrev pub instance_of : List ℕ → Option Said
instance_of [] = None
instance_of (b ∷ []) = Some (instance b)
instance_of (b ∷ x ∷ xs) = None

abbrev pub connection_of : List ℕ → Option Said
connection_of [] = None
connection_of (s ∷ []) = None
connection_of (s ∷ o ∷ []) = None
connection_of (s ∷ o ∷ t ∷ []) = None
connection_of (s ∷ o ∷ t ∷ i ∷ []) = Some (connection (record { source = end_of s o; target = end_of t i }))
connection_of (s ∷ o ∷ t ∷ i ∷ x ∷ xs) = None

-- what a field says, by its tag; nothing where tag and content do not fit
abbrev pub field_of : Raw → Option Said
field_of f =
    cond (f.tag == 1) (interface_of f.content)
    (cond (f.tag == 2) (Some (amounts f.content))
    (cond (f.tag == 3) (Some (actions f.content))
    (cond (f.tag == 4) (transition_of f.content)
    (cond (f.tag == 5) (entry_of f.content)
    (cond (f.tag == 6) (instance_of f.content)
    (cond (f.tag == 7) (connection_of f.content) None))))))

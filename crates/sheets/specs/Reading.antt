-- What a looked-up field yields to a reader: its words where it is of the reader's kind, else nothing. Assumes nothing.
use Rattle.std.specs.Prelude.{ℕ, cond, List, [], length, take, drop, Some, None, Option, nat_lt}
use Rattle.std.specs.Option.{option_map, option_flatten}
use Rattle.std.specs.List.{slice_get}
use Rattle.sheets.specs.Frames.{fields}
use Rattle.sheets.specs.Fields.{Said, field_of, interface, amounts, actions, transition, entry, instance, connection}
use Rattle.sheets.specs.Sheets.{Served, tagged}
use Rattle.sheets.specs.declared.words.Interface.{Interface}
use Rattle.sheets.specs.declared.words.Transition.{Transition}
use Rattle.sheets.specs.declared.words.Connection.{Connection}

-- what the k-th field of a tag says
abbrev pub said_at : ℕ → ℕ → List ℕ → Option Said
said_at t k bs = option_flatten (option_map field_of (slice_get (tagged t (fields bs)) k))

-- an entry's bytes after its event: the amount, then the counts
abbrev pub split_of : ℕ → ℕ → List ℕ → Option Served
split_of w e rest = cond (nat_lt (length rest) w) None (Some (record { event = e; amount = take w rest; counts = drop w rest }))

abbrev pub as_interface : Option Said → Option Interface
as_interface None = None
as_interface (Some (interface i)) = Some i
as_interface (Some (amounts bs)) = None
as_interface (Some (actions bs)) = None
as_interface (Some (transition t)) = None
as_interface (Some (entry e rest)) = None
as_interface (Some (instance b)) = None
as_interface (Some (connection c)) = None

abbrev pub as_amounts : Option Said → List ℕ
as_amounts None = []
as_amounts (Some (interface i)) = []
as_amounts (Some (amounts bs)) = bs
as_amounts (Some (actions bs)) = []
as_amounts (Some (transition t)) = []
as_amounts (Some (entry e rest)) = []
as_amounts (Some (instance b)) = []
as_amounts (Some (connection c)) = []

abbrev pub as_actions : Option Said → List ℕ
as_actions None = []
as_actions (Some (interface i)) = []
as_actions (Some (amounts bs)) = []
as_actions (Some (actions bs)) = bs
as_actions (Some (transition t)) = []
as_actions (Some (entry e rest)) = []
as_actions (Some (instance b)) = []
as_actions (Some (connection c)) = []

abbrev pub as_transition : Option Said → Option Transition
as_transition None = None
as_transition (Some (interface i)) = None
as_transition (Some (amounts bs)) = None
as_transition (Some (actions bs)) = None
as_transition (Some (transition t)) = Some t
as_transition (Some (entry e rest)) = None
as_transition (Some (instance b)) = None
as_transition (Some (connection c)) = None

abbrev pub as_entry : ℕ → Option Said → Option Served
as_entry w None = None
as_entry w (Some (interface i)) = None
as_entry w (Some (amounts bs)) = None
as_entry w (Some (actions bs)) = None
as_entry w (Some (transition t)) = None
as_entry w (Some (entry e rest)) = split_of w e rest
as_entry w (Some (instance b)) = None
as_entry w (Some (connection c)) = None

abbrev pub as_instance : Option Said → Option ℕ
as_instance None = None
as_instance (Some (interface i)) = None
as_instance (Some (amounts bs)) = None
as_instance (Some (actions bs)) = None
as_instance (Some (transition t)) = None
as_instance (Some (entry e rest)) = None
as_instance (Some (instance b)) = Some b
as_instance (Some (connection c)) = None

abbrev pub as_connection : Option Said → Option Connection
as_connection None = None
as_connection (Some (interface i)) = None
as_connection (Some (amounts bs)) = None
as_connection (Some (actions bs)) = None
as_connection (Some (transition t)) = None
as_connection (Some (entry e rest)) = None
as_connection (Some (instance b)) = None
as_connection (Some (connection c)) = Some c

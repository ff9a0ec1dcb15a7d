-- What the code's borrowing fields and entries say. Assumes nothing.
use Rattle.sheets.specs.Fields as F
use Rattle.sheets.specs.Fields.{Said}
use Rattle.sheets.specs.Sheets.{Served}
use Rattle.sheets.specs.declared.field.ServiceEntry.{ServiceEntry}
use Rattle.sheets.specs.declared.field.Field.{Field}
use Rattle.sheets.specs.declared.field.Field.TheVariants.{Interface, Amounts, Actions, Transition, Entry, Instance, Connection}

-- a field without its borrowing
abbrev pub said : Field → Said
said (Interface i) = F.interface i
said (Amounts bs) = F.amounts bs.now
said (Actions bs) = F.actions bs.now
said (Transition t) = F.transition t
said (Entry e rest) = F.entry e rest.now
said (Instance b) = F.instance b
said (Connection c) = F.connection c

-- an entry of a service block without its borrowing
abbrev pub shown_entry : ServiceEntry → Served
shown_entry e = record { event = e.event; amount = e.amount.now; counts = e.counts.now }

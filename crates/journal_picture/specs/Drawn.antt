-- What is drawn of a list of entries: those before its first fault, by the sites that are meant to be entered, and the state to
-- which they lead.
use Rattle.std.specs.Prelude.{Bool, List, [], ◌∷◌, take, Option, Some, None, Result, Ok, Err}
use Rattle.std.specs.Option.{is_some}
use Rattle.transfer_table.specs.Plan.{Plan}
use Rattle.transfer_table.specs.Table.{TableState, admit_of, first_state}
use Rattle.transfer_table.specs.Journal.{first_fault_of}
use Rattle.transfer_table.specs.declared.entry.Entry.{Entry}
use Rattle.transfer_table.specs.declared.entry.NotAdmitted.{NotAdmitted}
use Rattle.transfer_table.specs.declared.fault.Fault.{Fault}

-- The entries before the fault; all entries if there is none.
abbrev pub before : Option Fault → List Entry → List Entry
before None es = es
before (Some fault) es = take fault.place es

-- The entries before the first fault of a list.
abbrev pub drawn : Plan → List Bool → List Entry → List Entry
drawn p meant es = before (first_fault_of p meant es) es

-- Whether the list has a fault.
abbrev pub has_fault : Plan → List Bool → List Entry → Bool
has_fault p meant es = is_some (first_fault_of p meant es)

-- The state after an entry. A refused entry leaves the state unchanged.
abbrev pub or_same : TableState → Result TableState NotAdmitted → TableState
or_same t (Ok u) = u
or_same t (Err why) = t

-- The state after the entries, from a state on.
abbrev pub state_from : Plan → TableState → List Entry → TableState
state_from p t [] = t
state_from p t (e ∷ es) = state_from p (or_same t (admit_of p t e)) es

-- The state after all entries, from the first state on.
abbrev pub state_after : Plan → List Entry → TableState
state_after p es = state_from p (first_state p) es

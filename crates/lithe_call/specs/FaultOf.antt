-- The faults of reading as faults of the whole; the statuses and the lines that report faults.
use Rattle.std.specs.Prelude.{ℕ, List}
use Rattle.lithe_call.specs.declared.reading.ReadError.{ReadError}
use Rattle.lithe_call.specs.declared.reading.ReadError.TheVariants as reading
use Rattle.lithe_call.specs.declared.fault.Fault.{Fault}
use Rattle.lithe_call.specs.declared.fault.Fault.TheVariants as fault
use Rattle.lithe_call.specs.declared.status.Status.{Status}
use Rattle.lithe_call.specs.declared.status.Status.TheVariants as status
use Rattle.lithe_call.specs.Status.{constant_text}

-- The fault of a failed read is the fault of the whole.
abbrev pub read_fault_of : ReadError → Fault
read_fault_of reading.Memory = fault.Memory
read_fault_of reading.TooLong = fault.TooLong
read_fault_of reading.Failed = fault.ReadFault

-- The status of each fault.
abbrev pub status_of : Fault → Status
status_of fault.Usage = status.Usage
status_of fault.TooLong = status.TooLong
status_of fault.ReadFault = status.ReadFault
status_of (fault.Syntax line) = status.Syntax
status_of (fault.Refused line) = status.Refused
status_of fault.Memory = status.NoMemory

-- The line of a fault: its own, or else the text of its status.
abbrev pub line_of : Fault → List ℕ
line_of (fault.Syntax line) = line.items
line_of (fault.Refused line) = line.items
line_of why = constant_text (status_of why)

-- The texts that are written for a status or a fault: those of `lithe`, but for the forms of the words.
use Rattle.std.specs.Prelude.{ℕ, List, ◌++◌, codes}
use Rattle.lithe_call.specs.declared.fault.Fault.{Fault}
use Rattle.lithe_call.specs.declared.fault.Fault.TheVariants as fault
use Rattle.lithe_call.specs.declared.status.Status.{Status}
use Rattle.lithe_call.specs.declared.status.Status.TheVariants.{Usage}
use Rattle.lithe_call.specs.FaultOf.{line_of}
use Rattle.lithe_call.specs.Status.{line, constant_text}

-- The text of the status Usage lists the forms of the words.
abbrev pub usage_text : List ℕ
usage_text =
    line (codes "usage: lithe_picture text --harts N [--of run|tally|pipe]")
    ++ line (codes "       lithe_picture svg --harts N [--of run|tally|pipe]")

-- A status has this text, if it is always the same.
abbrev pub own_text : Status → List ℕ
own_text Usage = usage_text
own_text status = constant_text status

-- A fault has this text.
abbrev pub fault_text : Fault → List ℕ
fault_text fault.Usage = usage_text
fault_text why = line_of why

-- The numbers of the statuses, and the texts that don't depend on the input.
use Rattle.std.specs.Prelude.{ℕ, List, [], ◌∷◌, ◌++◌, codes}
use Rattle.lithe_call.specs.declared.status.Status.{Status}
use Rattle.lithe_call.specs.declared.status.Status.TheVariants.{Done, Illegal, Usage, Syntax, Refused, TooLong, ReadFault, WriteFault, NoMemory}

-- The exit status of a status.
abbrev pub number_of : Status → ℕ
number_of Done = 0
number_of Illegal = 1
number_of Usage = 2
number_of Syntax = 3
number_of Refused = 4
number_of TooLong = 5
number_of ReadFault = 6
number_of WriteFault = 7
number_of NoMemory = 8

-- A line: a text followed by a newline.
abbrev pub line : List ℕ → List ℕ
line text = text ++ 10 ∷ []

-- The text of the status Usage lists the forms of the words.
abbrev pub usage_text : List ℕ
usage_text =
    line (codes "usage: lithe_run run --harts N")
    ++ line (codes "       lithe_run solo")
    ++ line (codes "       lithe_run audit --harts N")
    ++ line (codes "       lithe_run make --seed X --size K --harts N")
    ++ line (codes "       lithe_run tally --harts N")
    ++ line (codes "       lithe_run pipe --harts N")

-- The text that a status writes to the stream of errors, if it is always the same.
abbrev pub constant_text : Status → List ℕ
constant_text Usage = usage_text
constant_text TooLong = line (codes "too long")
constant_text ReadFault = line (codes "read fault")
constant_text WriteFault = line (codes "write fault")
constant_text NoMemory = line (codes "no memory")
constant_text status = []

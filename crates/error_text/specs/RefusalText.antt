-- The line for a program that isn't accepted.
use Rattle.std.specs.Prelude.{ℕ, ◌-◌, List, [], ◌∷◌, ◌++◌, codes, nat_lt, if◌then◌else◌}
use Rattle.std.specs.Fmt.{decimal, signed_decimal}
use Rattle.array_tree.specs.Trees.{ProgramTree}
use Rattle.array_meaning.specs.Stores.{Arrays, arrays_of}
use Rattle.disjoint_check.specs.declared.fault.Limit.{Limit}
use Rattle.disjoint_check.specs.declared.fault.Limit.TheVariants as limit
use Rattle.disjoint_check.specs.declared.fault.CheckFault.{CheckFault}
use Rattle.disjoint_check.specs.declared.fault.CheckFault.TheVariants.{DuplicateName, UnknownName, BadRange, TooDeep, TooMuchWork, TooManySites, TooManyPieces, OutOfRange, Overlap, Memory}

-- A cell as `name[index]`; the arrays' cells are numbered one array after another.
abbrev pub cell_text : Arrays → ℕ → List ℕ
cell_text [] cell = []
cell_text (array ∷ more) cell =
    if nat_lt cell array.1 then array.0 ++ codes "[" ++ decimal cell ++ codes "]"
    else cell_text more (cell - array.1)

-- The word of a limit.
abbrev pub limit_text : Limit → List ℕ
limit_text limit.Length = codes "length"
limit_text limit.Names = codes "names"
limit_text limit.Cells = codes "cells"
limit_text limit.Bounds = codes "bounds"
limit_text limit.Members = codes "members"
limit_text limit.Branches = codes "branches"
limit_text limit.Phases = codes "phases"

-- ` at line ` and the line, at the end of the text.
abbrev pub line_text : ℕ → List ℕ
line_text line = codes " at line " ++ decimal line ++ 10 ∷ []

-- The text with a newline at its end.
abbrev pub ended : List ℕ → List ℕ
ended text = text ++ 10 ∷ []

-- The text after `refused: `; none for an allocation failure.
abbrev pub fault_text : ProgramTree → CheckFault → List ℕ
fault_text program (DuplicateName line) = codes "name used twice" ++ line_text line
fault_text program (UnknownName line) = codes "unknown name" ++ line_text line
fault_text program (BadRange line what found) =
    limit_text what ++ codes " " ++ signed_decimal found ++ line_text line
fault_text program (TooDeep level) = decimal level ++ ended (codes " levels")
fault_text program (TooMuchWork units) = decimal units ++ ended (codes " units of work")
fault_text program (TooManySites sites) = decimal sites ++ ended (codes " sites")
fault_text program (TooManyPieces pieces) = decimal pieces ++ ended (codes " pieces")
fault_text program (OutOfRange line index length) =
    codes "index " ++ signed_decimal index ++ codes " outside " ++ decimal length ++ codes " cells"
    ++ line_text line
fault_text program (Overlap line cell) =
    codes "overlap on " ++ cell_text (arrays_of program.arrays) cell ++ line_text line
fault_text program Memory = []

-- The whole line of a fault.
abbrev pub refusal_text : ProgramTree → CheckFault → List ℕ
refusal_text program fault = codes "refused: " ++ fault_text program fault

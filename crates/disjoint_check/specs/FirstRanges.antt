-- The first declaration, `for`, `par` or `team` outside a limit, in the order of the text.
use Rattle.std.specs.Prelude.{ℕ, ◌+◌, ◌-◌, ◌^◌, min, List, [], ◌∷◌, Option, None, ℤ, pos, int_le, nat_le, nat_lt, unsigned_abs}
use Rattle.array_tree.specs.Trees.{Statement, Assign, For, If, Par, Team, Sequence, ended, followed, Sequences, no_more, beside, Declaration, ProgramTree}
use Rattle.array_meaning.specs.Bounds.{most_arrays, most_cells, most_members, most_phases}
use Rattle.array_meaning.specs.Limits.{is_up_to, count_of}
use Rattle.disjoint_check.specs.Faults.{unless, first_fault}
use Rattle.disjoint_check.specs.declared.fault.CheckFault.{CheckFault}
use Rattle.disjoint_check.specs.declared.fault.CheckFault.TheVariants.{BadRange}
use Rattle.disjoint_check.specs.declared.fault.Limit.TheVariants as limit

-- A number of parts as it is reported: at most the greatest number of 63 bits.
abbrev pub clamped : ℕ → ℤ
clamped count = pos (min count (2 ^ 63 - 1))

-- The fault of a declaration is the first limit that it passes, with so many arrays and so many cells before it.
abbrev pub declaration_fault : Declaration → ℕ → ℕ → Option CheckFault
declaration_fault d arrays cells = first_fault
    (unless (is_up_to (pos most_cells) d.length) (BadRange d.line limit.Length d.length)
    ∷ unless (nat_lt arrays most_arrays)
    (BadRange d.line limit.Names (pos (most_arrays + 1)))
    ∷ unless (nat_le (cells + unsigned_abs d.length) most_cells)
    (BadRange d.line limit.Cells (pos (cells + unsigned_abs d.length)))
    ∷ [])

-- The first fault of some declarations, after so many arrays and cells.
abbrev pub declarations_fault : List Declaration → ℕ → ℕ → Option CheckFault
declarations_fault [] arrays cells = None
declarations_fault (d ∷ more) arrays cells =
    first_fault (declaration_fault d arrays cells
    ∷ declarations_fault more (arrays + 1) (cells + unsigned_abs d.length) ∷ [])

-- The fault of a `team` of so many phases is the first limit that it passes.
abbrev pub team_fault : ℕ → ℤ → ℤ → ℤ → ℕ → Option CheckFault
team_fault line low high members phases = first_fault
    (unless (int_le low high) (BadRange line limit.Bounds high)
    ∷ unless (is_up_to (pos most_members) members) (BadRange line limit.Members members)
    ∷ unless (is_up_to (pos most_phases) (pos phases)) (BadRange line limit.Phases (clamped phases))
    ∷ [])

-- The first fault of the ranges of a sequence, a statement, and branches or phases.
abbrev mutual
  pub range_fault_in : Sequence → Option CheckFault
  range_fault_in ended = None
  range_fault_in (followed first rest) =
      first_fault (statement_range_fault first ∷ range_fault_in rest ∷ [])

  pub statement_range_fault : Statement → Option CheckFault
  statement_range_fault (Assign line array index value) = None
  statement_range_fault (For line var low high body) =
      first_fault (unless (int_le low high) (BadRange line limit.Bounds high)
      ∷ range_fault_in body ∷ [])
  statement_range_fault (If line cond then_block else_block) =
      first_fault (range_fault_in then_block ∷ range_fault_in else_block ∷ [])
  statement_range_fault (Par line branches) = first_fault
      (unless (is_up_to (pos most_members) (pos (count_of branches)))
      (BadRange line limit.Branches (clamped (count_of branches)))
      ∷ range_fault_among branches
      ∷ [])
  statement_range_fault (Team line var low high members phases) =
      first_fault (team_fault line low high members (count_of phases)
      ∷ range_fault_among phases ∷ [])

  pub range_fault_among : Sequences → Option CheckFault
  range_fault_among no_more = None
  range_fault_among (beside first rest) =
      first_fault (range_fault_in first ∷ range_fault_among rest ∷ [])

-- The first fault of the ranges of a program: of its declarations, then of its body.
abbrev pub range_fault : ProgramTree → Option CheckFault
range_fault program = first_fault
    (declarations_fault program.arrays 0 0 ∷ range_fault_in program.body ∷ [])

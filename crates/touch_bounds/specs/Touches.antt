-- Recorded stretches of the cells that a work touches.
use Rattle.std.specs.Prelude.{ℕ, ◌+◌, ◌<◌, ◌≤◌, Bool, true, false, List, [], ◌∷◌, length, Option, IsTrue, ℤ, pos, ◌≤ℤ◌, ◌<ℤ◌, unsigned_abs, ◌⊎◌, min, max, slice_index_or}
use Rattle.array_tree.specs.Trees.{Expression, Sequence, Assign, If}
use Rattle.array_meaning.specs.Stores.{Arrays, Vars, length_of}
use Rattle.array_meaning.specs.Work.{Work, statement_work}
use Rattle.array_meaning.specs.Touch.{Visit, visit, reads_in, walk, Covers}
use Rattle.array_meaning.specs.Accepted.{is_inside}
use Rattle.array_eval.specs.Layouts.{number_of}
use Rattle.touch_bounds.specs.declared.interval.Interval.{Interval}
use Rattle.touch_bounds.specs.declared.touch.Stretch.{Stretch}
use Rattle.touch_bounds.specs.declared.touch.Touch.{Touch}
use Rattle.touch_bounds.specs.Intervals.{LiesIn}
use Rattle.touch_bounds.specs.Ranges.{Bounds, AreWithin}

-- The cell is in the stretch.
abbrev pub Includes : Stretch → ℕ → Type 0
Includes cells cell = (cells.from ≤ cell) × (cell < cells.to)

-- The stretch has no cell.
abbrev pub no_cells : Stretch
no_cells = record { from = 18446744073709551615; to = 0 }

-- The least stretch that contains the cells of both.
abbrev pub hull : Stretch → Stretch → Stretch
hull a b = record { from = min a.from b.from; to = max a.to b.to }

-- The stretch of written cells of a touch, or that of read cells.
abbrev pub side : Touch → Bool → Stretch
side touch true = touch.written
side touch false = touch.read

-- An untouched array has no cell read and no cell written.
abbrev pub untouched : Touch
untouched = record { read = no_cells; written = no_cells }

-- One of two pieces writes a cell that the other touches.
pub record DoClash (one other : Touch) : Type 0 where
  pub cell : ℕ
  pub clash : Includes one.written cell × Includes other.read cell
      ⊎ (Includes one.written cell × Includes other.written cell
      ⊎ Includes one.read cell × Includes other.written cell)

-- The recorded stretches of the array with this index.
abbrev pub touch_at : List Touch → ℕ → Touch
touch_at touches number = slice_index_or touches number untouched

-- Each cell that was in a recorded stretch is still in one.
pub record Widens (before after : List Touch) : Type 0 where
  pub kept : (number : ℕ) (writes : Bool) (cell : ℕ)
      → Includes (side (touch_at before number) writes) cell
      → Includes (side (touch_at after number) writes) cell

-- The values of an interval are all inside an array of this length, and the array's cells at these values are in the stretch.
pub record AreCellsWithin (base count : ℕ) (within : Interval) (cells : Stretch) : Type 0 where
  pub inside : (x : ℤ) → LiesIn within x → (pos 0 ≤ℤ x) × (x <ℤ pos count)
  pub covered : (x : ℤ) → LiesIn within x → Includes cells (base + unsigned_abs x)

-- For any values of the variables between their bounds: the index of a visit is inside its array if it is static, and the cells
-- that it touches are in the stretch.
pub record IsReach (arrays : Arrays) (array : List ℕ) (index : Option ℤ)
    (cells : Stretch) : Type 0 where
  pub inside : IsTrue (is_inside (length_of arrays array) index)
  pub covered : (cell : ℕ) → Covers arrays array index cell → Includes cells cell

-- The cells are a reach of the index, for any values of the variables between their bounds.
abbrev pub IsReachOf : Arrays → List ℕ → Expression → Bounds → Stretch → Type 0
IsReachOf arrays array index bounds cells =
    (vars : Vars) → AreWithin bounds vars
    → IsReach arrays array (visit arrays 0 false vars array index).index cells

-- The recorded stretches cover a visit: its array is one of the program, its index is inside, and each cell that it touches is
-- in a stretch of the array, as read or as written.
pub record IsVisitNoted (arrays : Arrays) (touches : List Touch) (v : Visit) : Type 0 where
  pub known : number_of arrays v.array < length arrays
  pub reach : IsReach arrays v.array v.index
      (side (touch_at touches (number_of arrays v.array)) v.writes)

-- The recorded stretches cover each of the visits.
abbrev pub AreVisitsNoted : Arrays → List Touch → List Visit → Type 0
AreVisitsNoted arrays touches [] = Unit {0}
AreVisitsNoted arrays touches (v ∷ more) =
    IsVisitNoted arrays touches v × AreVisitsNoted arrays touches more

-- The recorded stretches cover a visit with an index, for any values of the variables between their bounds.
abbrev pub IsIndexNoted : Arrays → List Touch → Bounds → Bool → List ℕ → Expression → Type 0
IsIndexNoted arrays touches bounds writes array index =
    (line : ℕ) (vars : Vars) → AreWithin bounds vars
    → IsVisitNoted arrays touches (visit arrays line writes vars array index)

-- The recorded stretches cover the reads of an expression.
abbrev pub AreReadsNoted : Arrays → List Touch → Bounds → Expression → Type 0
AreReadsNoted arrays touches bounds expr = (line : ℕ) (vars : Vars) → AreWithin bounds vars
    → AreVisitsNoted arrays touches (reads_in arrays line vars expr)

-- The recorded stretches cover a work.
abbrev pub IsWorkNoted : Arrays → List Touch → Bounds → Work → Type 0
IsWorkNoted arrays touches bounds work =
    (vars : Vars) → AreWithin bounds vars → AreVisitsNoted arrays touches (walk arrays (work vars))

-- The recorded stretches cover an assignment, on any line.
abbrev pub IsAssignNoted : Arrays → List Touch → Bounds → List ℕ → Expression → Expression → Type 0
IsAssignNoted arrays touches bounds array index value =
    (line : ℕ) → IsWorkNoted arrays touches bounds (statement_work (Assign line array index value))

-- The recorded stretches cover an `if`, on any line.
abbrev pub IsChoiceNoted : Arrays → List Touch → Bounds → Expression → Sequence → Sequence → Type 0
IsChoiceNoted arrays touches bounds test then_block else_block =
    (line : ℕ) → IsWorkNoted arrays touches bounds
    (statement_work (If line test then_block else_block))

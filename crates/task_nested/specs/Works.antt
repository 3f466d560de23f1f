-- The outputs of the application's tasks.
use Rattle.std.specs.Prelude.{◌≡◌, ◌+◌, ◌%◌, ◌^◌, ℕ, Vec, sum}
use Rattle.std.specs.List.{AllZip}
use Rattle.std.specs.declared.alloc.Global.{Global}
use Rattle.task_loops.specs.Ranges.{between}
use Rattle.task_loops.specs.declared.fold.Indices.{Ghosts}
use Rattle.task_loops.specs.declared.fold.Part.{Part}
use Rattle.task_loops.specs.declared.sums.Sum.{Sum}
use Rattle.task_nested.specs.Rows.{IsSortOf, IsSummary}
use Rattle.task_nested.specs.declared.rows.Rows.{Rows}
use Rattle.task_nested.specs.declared.work.Summary.{Summary}
use Rattle.task_nested.specs.declared.work.Work.{Work}
use Rattle.task_nested.specs.declared.work.Work.TheVariants.{Table, Sorted, Added}
use Rattle.task_nested.specs.declared.work.Done.{Done}
use Rattle.task_nested.specs.declared.work.Done.TheVariants.{Summaries, Numbers, Total}

-- The output of a range of rows: their summaries in order.
abbrev pub GivesRows : {indices : Ghosts Rows} → Part Rows indices → Vec Summary Global → Type 0
GivesRows part list = AllZip IsSummary (between part.low part.high part.fold.rows.now) list.items

-- The output of a range of a row: its sum.
abbrev pub GivesSum : {indices : Ghosts Sum} → Part Sum indices → ℕ → Type 0
GivesSum part total = total ≡ sum (between part.low part.high part.fold.numbers.now) % 2 ^ 64

-- The outputs: a range of rows has their summaries in order, a list has its numbers in order, and a range of a row has its sum.
abbrev pub gives_of : Work → Done → Type 0
gives_of (Table part) done =
    (list : Vec Summary Global) × (done ≡ Summaries list) × GivesRows part list
gives_of (Sorted sort) done = (list : Vec ℕ Global) × (done ≡ Numbers list) × IsSortOf sort.items list
gives_of (Added part) done =
    (total : ℕ) × (done ≡ Total total) × GivesSum part total

-- The number of levels of tasks that may be inside a task. Each row of a table is sorted and added up, with so many levels.
abbrev pub depth_of : Work → ℕ
depth_of (Table part) = part.cuts + part.fold.cuts
depth_of (Sorted sort) = sort.cuts
depth_of (Added part) = part.cuts + 0

-- The summary of a row.
use Rattle.std.specs.Prelude.{◌≡◌, ◌%◌, ◌^◌, ℕ, Vec, sum}
use Rattle.std.specs.List.Sorted.{IsSorted, IsPermutation}
use Rattle.std.specs.Ordering.{nat_cmp}
use Rattle.task_nested.specs.declared.work.Summary.{Summary}

-- The numbers of a row in order.
abbrev pub IsSortOf : {A B : Type 0} → Vec ℕ A → Vec ℕ B → Type 0
IsSortOf row list = IsSorted nat_cmp list.items × IsPermutation row.items list.items

-- A row's numbers in order, and their sum modulo 2^64.
abbrev pub IsSummary : {A : Type 0} → Vec ℕ A → Summary → Type 0
IsSummary row summary = IsSortOf row summary.sorted × (summary.sum ≡ sum row.items % 2 ^ 64)

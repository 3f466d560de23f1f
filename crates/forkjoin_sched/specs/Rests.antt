-- `==` of jobs, without their stores.
use Rattle.std.specs.Prelude.{Bool, ◌&&◌, nat_eq}
use Rattle.array_tree.specs.Equal.{declarations_eq}
use Rattle.array_eval.specs.Equal.{vars_eq}
use Rattle.array_jobs.specs.Equal.{work_eq}
use Rattle.array_jobs.specs.Jobs.{JobTree}

-- The test compares two jobs part by part, but not their stores.
abbrev pub rest_eq : JobTree → JobTree → Bool
rest_eq a b =
    nat_eq a.site b.site && (nat_eq a.phase b.phase
    && (nat_eq a.place b.place && (nat_eq a.first b.first
    && (work_eq a.work b.work
    && (vars_eq a.vars b.vars
    && declarations_eq a.arrays b.arrays)))))

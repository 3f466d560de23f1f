-- `==` of works and of jobs.
use Rattle.std.specs.Prelude.{Bool, false, ◌&&◌, nat_eq}
use Rattle.std.specs.Ordering.{int_eq}
use Rattle.array_tree.specs.Equal.{name_eq, sequence_eq, declarations_eq}
use Rattle.array_eval.specs.Equal.{store_eq, vars_eq}
use Rattle.array_jobs.specs.Works.{WorkTree, branch_of, member_of}
use Rattle.array_jobs.specs.Jobs.{JobTree}

-- The test compares two works part by part.
abbrev pub work_eq : WorkTree → WorkTree → Bool
work_eq (branch_of body) (branch_of other) = sequence_eq body other
work_eq (member_of var low high body) (member_of v l h b) =
    name_eq var v && (int_eq low l && (int_eq high h && sequence_eq body b))
work_eq work other = false

-- The test compares two jobs part by part.
abbrev pub job_eq : JobTree → JobTree → Bool
job_eq a b =
    nat_eq a.site b.site && (nat_eq a.phase b.phase
    && (nat_eq a.place b.place && (nat_eq a.first b.first
    && (work_eq a.work b.work
    && (vars_eq a.vars b.vars
    && (store_eq a.store b.store && declarations_eq a.arrays b.arrays))))))

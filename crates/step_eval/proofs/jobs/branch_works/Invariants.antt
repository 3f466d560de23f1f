use Rattle.std.proofs.Common.{◌≡◌, ◌++◌, drop, map}
use Rattle.array_tree.specs.Trees.{sequence_of, sequences_of, sequences}
use Rattle.array_jobs.specs.Works.{work_of}
use Rattle.step_eval.specs.Nests.{branch_trees}
use Rattle.step_eval.proofs.jobs.branch_works.Given as goal

-- The works so far, and those of the remaining branches.
abbrev pub invariant-loop-branch : goal.invariant-loop-branch
invariant-loop-branch l =
    map work_of l.works.items ++ branch_trees (sequences (map sequence_of (drop l.branch-index l.branch-items))) ≡ branch_trees (sequences_of l.branches)

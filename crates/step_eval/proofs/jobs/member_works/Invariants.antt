use Rattle.std.proofs.Common.{◌≡◌, ◌-◌, ◌++◌, map}
use Rattle.array_tree.specs.Trees.{sequence_of}
use Rattle.array_jobs.specs.Works.{work_of}
use Rattle.step_eval.specs.Nests.{member_trees}
use Rattle.step_eval.proofs.jobs.member_works.Given as goal

-- The works so far, and those of the remaining members.
abbrev pub invariant-loop-member : goal.invariant-loop-member
invariant-loop-member l =
    map work_of l.works.items ++ member_trees l.var l.low l.high l.members (sequence_of l.body) l.member (l.members - l.member)
    ≡ member_trees l.var l.low l.high l.members (sequence_of l.body) 0 l.members

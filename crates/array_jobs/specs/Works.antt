-- What a job runs.
use Rattle.std.specs.Prelude.{ℕ, ◌*◌, List, ℤ}
use Rattle.array_tree.specs.Trees.{For, Sequence, ended, followed, sequence_of}
use Rattle.array_meaning.specs.Stores.{Vars}
use Rattle.array_meaning.specs.Steps.{Steps}
use Rattle.array_meaning.specs.Work.{sequence_work, loop, span}
use Rattle.array_meaning.specs.Plans.{sites_in}
use Rattle.array_jobs.specs.declared.work.Work.{Work}
use Rattle.array_jobs.specs.declared.work.Work.TheVariants.{Branch, Member}

-- A work: a branch of a `par`, or a member's loop over its own iterations in one phase of a `team`.
pub data WorkTree : Type 0 where
  branch_of : (body : Sequence) → WorkTree
  member_of : (var : List ℕ) (low high : ℤ) (body : Sequence) → WorkTree

-- The parts of a work, without their addresses.
abbrev pub work_of : Work → WorkTree
work_of (Branch body) = branch_of (sequence_of body.now)
work_of (Member var low high body) = member_of var.now low high (sequence_of body.now)

-- The steps of a work, with the loop variables around it.
abbrev pub steps_of : WorkTree → Vars → Steps
steps_of (branch_of body) vars = sequence_work body vars
steps_of (member_of var low high body) vars = loop var low high (sequence_work body) vars

-- The statements of a work. The loop of a member has no line of its own.
abbrev pub statements_of : WorkTree → Sequence
statements_of (branch_of body) = body
statements_of (member_of var low high body) = followed (For 0 var low high body) ended

-- The number of a work's sites, on both sides of each `if`.
abbrev pub sites_of : WorkTree → ℕ
sites_of (branch_of body) = sites_in body
sites_of (member_of var low high body) = span low high * sites_in body

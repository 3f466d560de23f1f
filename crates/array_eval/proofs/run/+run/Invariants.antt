use Rattle.std.proofs.Common.{◌≡◌, drop, map}
use Rattle.array_tree.specs.Trees.{statement_of, sequence_of, sequences_of, sequence, sequences}
use Rattle.array_meaning.specs.Work.{sequence_work, branches_work, phases_work, loop}
use Rattle.array_eval.specs.Traces.{traced}
use Rattle.array_eval.specs.Views.{vars_of}
use Rattle.array_eval.proofs.run.+run.Given as goal

-- The remaining statements from the state so far give what all statements give from the start.
abbrev pub invariant-run_block-loop-statement : goal.invariant-run_block-loop-statement
invariant-run_block-loop-statement l =
    traced l.layout (sequence_work (sequence (map statement_of (drop l.statement-index l.statement-items))) (vars_of l.scope)) l.store
    ≡ traced l.layout (sequence_work (sequence_of l.block) (vars_of l.scope)) l.fn.store

abbrev pub invariant-run_branches-loop-branch : goal.invariant-run_branches-loop-branch
invariant-run_branches-loop-branch l =
    traced l.layout (branches_work (sequences (map sequence_of (drop l.branch-index l.branch-items))) (vars_of l.scope)) l.store
    ≡ traced l.layout (branches_work (sequences_of l.branches) (vars_of l.scope)) l.fn.store

abbrev pub invariant-run_turns-loop-number : goal.invariant-run_turns-loop-number
invariant-run_turns-loop-number l =
    traced l.layout (loop l.var l.number l.high (sequence_work (sequence_of l.body)) (vars_of l.scope)) l.store
    ≡ traced l.layout (loop l.var l.low l.high (sequence_work (sequence_of l.body)) (vars_of l.scope)) l.fn.store

abbrev pub invariant-run_phases-loop-phase : goal.invariant-run_phases-loop-phase
invariant-run_phases-loop-phase l =
    traced l.layout (phases_work (sequences (map sequence_of (drop l.phase-index l.phase-items))) l.var l.low l.high (vars_of l.scope)) l.store
    ≡ traced l.layout (phases_work (sequences_of l.phases) l.var l.low l.high (vars_of l.scope)) l.fn.store

use Rattle.std.proofs.Common.{◌≡◌, ℕ, List}
use Rattle.array_tree.specs.Trees.{Sequence}
use Rattle.array_meaning.specs.Stores.{Arrays, Vars}
use Rattle.array_meaning.specs.Work.{sequence_work, loop}
use Rattle.array_eval.specs.Resolved.{AreActsOf}
use Rattle.array_eval.specs.Traces.{traced}
use Rattle.array_eval.proofs.acts.run_acts.Given as goal

-- The remaining turns from the state so far give what all turns give from the start.
abbrev pub invariant-loop-turn : goal.invariant-loop-turn
invariant-loop-turn l =
    (arrays : Arrays) (var : List ℕ) (vars : Vars) (body : Sequence) → AreActsOf arrays var vars l.acts body →
    traced arrays (loop var l.turn l.high (sequence_work body) vars) l.store
    ≡ traced arrays (loop var l.low l.high (sequence_work body) vars) l.fn.store

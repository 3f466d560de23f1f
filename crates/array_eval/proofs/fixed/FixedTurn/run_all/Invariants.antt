use Rattle.std.proofs.Common.{◌≡◌}
use Rattle.array_tree.specs.Trees.{Sequence}
use Rattle.array_meaning.specs.Work.{sequence_work, loop}
use Rattle.array_eval.specs.Fixed.{IsTurnOf}
use Rattle.array_eval.specs.Traces.{traced}
use Rattle.array_eval.specs.Views.{vars_of}
use Rattle.array_eval.proofs.fixed.FixedTurn.run_all.Given as goal

-- The remaining turns from the state so far give what all turns give from the start.
abbrev pub invariant-loop-number : goal.invariant-loop-number
invariant-loop-number l =
    (body : Sequence) → IsTurnOf l.layout l.self l.var (vars_of l.scope) body →
    traced l.layout (loop l.var l.number l.high (sequence_work body) (vars_of l.scope)) l.store
    ≡ traced l.layout (loop l.var l.low l.high (sequence_work body) (vars_of l.scope)) l.fn.store

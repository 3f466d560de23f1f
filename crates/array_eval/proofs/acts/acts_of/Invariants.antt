use Rattle.std.proofs.Common.{◌≡◌, ◌∷◌, ℤ, drop, map}
use Rattle.array_tree.specs.Trees.{statement_of, sequence_of, sequence}
use Rattle.array_meaning.specs.Work.{sequence_work}
use Rattle.array_eval.specs.Resolved.{after_acts}
use Rattle.array_eval.specs.Traces.{Trace, traced}
use Rattle.array_eval.specs.Views.{vars_of}
use Rattle.array_eval.proofs.acts.acts_of.Given as goal

-- In each turn the assignments so far, and then the remaining statements, leave what the body leaves.
abbrev pub invariant-loop-statement : goal.invariant-loop-statement
invariant-loop-statement l = (turn : ℤ) (t : Trace) →
    traced l.layout (sequence_work (sequence (map statement_of (drop l.statement-index l.statement-items))) ((l.var, turn) ∷ vars_of l.scope))
    (after_acts l.acts.items turn t)
    ≡ traced l.layout (sequence_work (sequence_of l.body) ((l.var, turn) ∷ vars_of l.scope)) t

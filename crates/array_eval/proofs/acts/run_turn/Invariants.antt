use Rattle.std.proofs.Common.{◌≡◌, drop}
use Rattle.array_eval.specs.Resolved.{after_acts}
use Rattle.array_eval.proofs.acts.run_turn.Given as goal

-- The remaining assignments from the state so far give what all assignments give from the start.
abbrev pub invariant-loop-act : goal.invariant-loop-act
invariant-loop-act l = after_acts (drop l.act-index l.acts) l.turn l.store ≡ after_acts l.acts l.turn l.fn.store

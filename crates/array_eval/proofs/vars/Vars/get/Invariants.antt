use Rattle.std.proofs.Common.{◌≡◌, drop}
use Rattle.array_eval.specs.Bindings.{pairs_of}
use Rattle.array_eval.specs.Overlays.{bound_to}
use Rattle.array_eval.proofs.vars.Vars.get.Given as goal

abbrev pub invariant-loop-binding : goal.invariant-loop-binding
invariant-loop-binding l = bound_to (pairs_of (drop l.binding-index l.binding-items)) l.name ≡ bound_to l.self l.name

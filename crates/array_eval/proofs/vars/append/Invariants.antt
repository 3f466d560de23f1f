use Rattle.std.proofs.Common.{◌≡◌, ◌++◌, take}
use Rattle.array_eval.specs.Bindings.{pairs_of}
use Rattle.array_eval.proofs.vars.append.Given as goal

abbrev pub invariant-loop-binding : goal.invariant-loop-binding
invariant-loop-binding l = pairs_of l.bindings.items ≡ pairs_of l.fn.bindings.items ++ pairs_of (take l.binding-index l.others)

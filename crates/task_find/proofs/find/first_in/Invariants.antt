use Rattle.task_find.specs.Passing.{NonePass}
use Rattle.task_find.proofs.find.first_in.Given as goal

abbrev pub invariant-indices : goal.invariant-indices
invariant-indices g l = NonePass (g.P.Predicate.passes l.predicate) l.elements l.low l.index

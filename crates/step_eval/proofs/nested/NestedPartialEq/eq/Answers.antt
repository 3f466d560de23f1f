use Rattle.std.proofs.lemmas.Bool.Decides.{Decides-at}
use Rattle.step_eval.specs.NestEqual.{nested_decides}
use Rattle.step_eval.proofs.nested.NestedPartialEq.eq.Goals as goal

pub returns-clause-same : goal.returns-clause-same
returns-clause-same c = Decides-at _ _ c.same_nested.ensures (nested_decides _ _)

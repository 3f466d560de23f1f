use Rattle.std.proofs.Common.{arith}
use Rattle.task_loops.proofs.loops.EachFold.join.Goals as goal
use mathlib.Core.Logic.{dite}
use native.Mathlib.Decide.{dec_le}

pub returns-clause-output : goal.returns-clause-output
returns-clause-output g c = λ low middle high h k f b index from to.
    dite (dec_le middle index) (λ right. b index right to) (λ left. f index from (omega arith))

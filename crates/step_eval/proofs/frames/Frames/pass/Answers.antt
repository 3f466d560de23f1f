use Rattle.std.proofs.Common.{[], reverse, subst}
use Rattle.std.specs.Prelude.{IsSome}
use Rattle.step_eval.specs.Machines.{next_construct}
use Rattle.step_eval.specs.Inside.Frames.{on_top, works_in, vars_in}
use Rattle.step_eval.proofs.FrameLemmas.{passed_on_top}
use Rattle.step_eval.proofs.frames.Frames.pass.Goals as goal

pub returns-in-Some-clause-passed : goal.returns-in-Some-clause-passed
returns-in-Some-clause-passed c arrays around store =
    let before = c.args.self.now in
    let below = reverse before.below.items in
    let next = subst (λ top. IsSome (next_construct (works_in (on_top top below) (vars_in before [])))) c.in-Some.is c.requires in
    rw c.in-Some.is (passed_on_top arrays store c.in-Some.top c.past.result below (vars_in before around) (vars_in before []) next c.past.ensures)

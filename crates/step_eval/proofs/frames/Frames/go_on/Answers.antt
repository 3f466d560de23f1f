use Rattle.std.proofs.Common.{◌≡◌, length, reverse, sym, subst}
use Rattle.step_eval.specs.Inside.Frames.{on_top, works_in, vars_in, loops_in, IsMore, IsStackedWith}
use Rattle.step_eval.proofs.FrameLemmas.{more_on_top, always_err}
use Rattle.step_eval.proofs.frames.Frames.go_on.Goals as goal

pub returns-in_err-reported-in-Some-clause-more : goal.returns-in_err-reported-in-Some-clause-more
returns-in_err-reported-in-Some-clause-more c =
    let around = c.args.around.now in
    let before = c.args.self.now in
    let below = reverse before.below.items in
    let stacked : IsStackedWith c.in-Some.top before = subst (λ top. length before.vars.items ≡ loops_in (on_top top below)) c.in-Some.is c.requires.stacked in
    always_err c.from_residual.result
    (subst (λ top. IsMore (works_in (on_top top below) (vars_in before around))) (sym c.in-Some.is) (more_on_top before c.in-Some.top around stacked))

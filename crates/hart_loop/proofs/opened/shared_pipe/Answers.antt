use Rattle.std.proofs.Common.{◌∙◌, ap}
use Rattle.hart_loop.proofs.opened.shared_pipe.Goals as goal

pub returns : goal.returns
returns c = (c.in_ok-shared.ensures ∙ ap (λ p. p.state.nested) c.in_ok-pipe.ensures ∙ c.in_ok-own.ensures, c.in_ok-is_clear.ensures.0 c.if-not-is_clear.false)

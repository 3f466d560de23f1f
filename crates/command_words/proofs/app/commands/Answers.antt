use Rattle.std.proofs.Common.{ap, ap₂, ◌∙◌, arith}
use Rattle.clap.specs.Words.{App, with_subcommand}
use Rattle.command_words.proofs.Apps.{step_all, done_all}
use Rattle.command_words.proofs.app.commands.Goals as goal

pub loop-name-init : goal.loop-name-init
loop-name-init c =
    c.in_ok-app.ensures.shape c.in_ok-make.ensures.local
    ∙ ap₂ with_subcommand (
    c.in_ok-first.ensures.shape c.bare-solo.ensures.local ∙ ap₂ with_subcommand c.top.ensures (ap (λ (a : App). a.top) c.bare-solo.ensures.app)
    ) (ap (λ (a : App). a.top) c.in_ok-make.ensures.app)

pub loop-name-preserved : goal.loop-name-preserved
loop-name-preserved c =
    step_all _ c.loop-name.name-index _ _ _ _ c.loop-name.invariant (c.in_ok-app-2.ensures.shape c.in_ok-command.ensures.local) (ap (λ (a : App). a.top) c.in_ok-command.ensures.app) (omega arith)

pub returns : goal.returns
returns c =
    let all = done_all _ c.loop-name.name-index _ c.loop-name.invariant (omega arith) in all

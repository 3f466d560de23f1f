use Rattle.std.proofs.Common.{rules, ap₂, ◌∙◌}
use Rattle.clap.specs.Words.{with_rule}
use Rattle.command_words.proofs.app.make.Goals as goal

pub returns-clause-app : goal.returns-clause-app
returns-clause-app c =
    c.in_ok-third.ensures.shape (search rules)
    ∙ ap₂ with_rule (
    c.in_ok-second.ensures.shape (search rules)
    ∙ ap₂ with_rule (c.in_ok-first.ensures.shape (search rules) ∙ ap₂ with_rule c.bare.ensures.app c.needed.ensures.rule) c.needed-2.ensures.rule
    ) c.needed-3.ensures.rule

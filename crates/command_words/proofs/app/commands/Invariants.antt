use Rattle.std.proofs.Common.{◌≡◌, take}
use Rattle.clap.specs.Words.{app_of}
use Rattle.command_words.proofs.Apps.{with_all}
use Rattle.command_words.proofs.app.commands.Given as goal

-- The commands so far.
abbrev pub invariant-loop-name : goal.invariant-loop-name
invariant-loop-name l = app_of l.app ≡ with_all (take l.name-index l.name-items)

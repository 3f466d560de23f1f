use Rattle.std.proofs.Common.{sym, ◌∙◌, map, string_bytes}
use Rattle.command_words.proofs.Few.{form_few}
use Rattle.lithe_call.proofs.command.parsed_command.Goals as goal

pub returns-in-Some-clause-some_hart : goal.returns-in-Some-clause-some_hart
returns-in-Some-clause-some_hart c = (form_few (map string_bytes c.args.words.now) c.in-Some.command (sym c.in_ok-command.ensures ∙ c.in-Some.is)).0

pub returns-in-Some-clause-few_harts : goal.returns-in-Some-clause-few_harts
returns-in-Some-clause-few_harts c = (form_few (map string_bytes c.args.words.now) c.in-Some.command (sym c.in_ok-command.ensures ∙ c.in-Some.is)).1

pub returns-in-Some-clause-some_size : goal.returns-in-Some-clause-some_size
returns-in-Some-clause-some_size c = (form_few (map string_bytes c.args.words.now) c.in-Some.command (sym c.in_ok-command.ensures ∙ c.in-Some.is)).2

pub returns-in-Some-clause-small_size : goal.returns-in-Some-clause-small_size
returns-in-Some-clause-small_size c = (form_few (map string_bytes c.args.words.now) c.in-Some.command (sym c.in_ok-command.ensures ∙ c.in-Some.is)).3

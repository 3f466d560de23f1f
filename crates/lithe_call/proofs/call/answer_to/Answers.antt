use Rattle.std.proofs.Common.{subst, sym, IfOk, IfErr}
use Rattle.command_words.specs.declared.command.Command.{Command}
use Rattle.lithe_call.specs.Faults.{IsNoOutput}
use Rattle.lithe_call.specs.Output.{IsAnswer}
use Rattle.lithe_call.proofs.call.answer_to.Goals as goal

pub returns-in-Make-clause-output : goal.returns-in-Make-clause-output
returns-in-Make-clause-output g c =
    subst (λ (command : Command). IfOk c.ran_made.result (IsAnswer command c.args.bytes.now)) (sym c.in-Make.is) (c.ran_made.ensures.output c.args.bytes.now)

pub returns-in-Make-clause-fault : goal.returns-in-Make-clause-fault
returns-in-Make-clause-fault g c =
    subst (λ (command : Command). IfErr c.ran_made.result (IsNoOutput command c.args.bytes.now)) (sym c.in-Make.is) (c.ran_made.ensures.fault c.args.bytes.now)

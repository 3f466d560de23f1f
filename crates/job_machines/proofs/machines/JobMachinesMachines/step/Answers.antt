use Rattle.std.proofs.Common.{◌∙◌, sym, subst}
use Rattle.step_eval.specs.Machines.{HasGone}
use Rattle.job_machines.proofs.Seen.{goes_of, accounts_of, finished_of}
use Rattle.job_machines.proofs.machines.JobMachinesMachines.step.Goals as goal

pub returns-clause-goes : goal.returns-clause-goes
returns-clause-goes c =
    rw c.as_seen.ensures (goes_of c.args.running.now c.go.new.self c.go.result
    (subst (λ m. HasGone m c.go.result c.go.new.self) c.machine.ensures.value c.go.ensures.gone))

pub returns-clause-account : goal.returns-clause-account
returns-clause-account c =
    rw c.as_seen.ensures (accounts_of c.args.running.now c.go.new.self c.go.result
    (subst (λ m. HasGone m c.go.result c.go.new.self) c.machine.ensures.value c.go.ensures.gone))

pub returns-clause-finished : goal.returns-clause-finished
returns-clause-finished c = λ is.
    finished_of c.args.running.now c.go.new.self c.go.result
    (subst (λ m. HasGone m c.go.result c.go.new.self) c.machine.ensures.value c.go.ensures.gone) (sym c.as_seen.ensures ∙ is)

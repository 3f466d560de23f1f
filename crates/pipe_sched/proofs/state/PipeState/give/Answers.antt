use Rattle.std.proofs.Common.{sym, subst}
use Rattle.array_jobs.specs.Jobs.{JobParts, job_of}
use Rattle.step_eval.specs.Nests.{nested_of}
use Rattle.pipe_sched.specs.Pipes.{IsJobAt}
use Rattle.pipe_sched.proofs.Told.{hands_out}
use Rattle.pipe_sched.proofs.state.PipeState.give.Goals as goal

pub due_job-requires : goal.due_job-requires
due_job-requires c = c.requires.ready

pub hand_out-requires-clause-ready : goal.hand_out-requires-clause-ready
hand_out-requires-clause-ready c = c.requires.ready

pub hand_out-requires-clause-own : goal.hand_out-requires-clause-own
hand_out-requires-clause-own c =
    subst (λ (j : JobParts). IsJobAt (nested_of c.args.self.now.nested) c.args.member c.args.phase (job_of j)) (sym c.in_ok-own.ensures) c.in_ok-job.ensures.own

pub returns-clause-given : goal.returns-clause-given
returns-clause-given c =
    hands_out c.args.self.now c.in_ok-job.job c.hand_out.new.self c.args.member c.args.phase c.requires c.in_ok-job.ensures.own
    c.in_ok-job.ensures.place c.in_ok-job.ensures.phase c.hand_out.ensures.marked c.hand_out.ensures.out

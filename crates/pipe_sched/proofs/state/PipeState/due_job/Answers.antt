use Rattle.std.proofs.Common.{length, sym, ap, ◌∙◌}
use Rattle.std.proofs.lemmas.Result.{IfOk-weaker}
use Rattle.array_meaning.proofs.StepLemmas.{length_after}
use Rattle.array_jobs.specs.Jobs.{job_of}
use Rattle.step_eval.specs.Nests.{nested_of}
use Rattle.pipe_sched.specs.Slots.{PipeParts}
use Rattle.phase_order.specs.Pipes.{written_before}
use Rattle.pipe_sched.specs.Pipes.{piped_writes}
use Rattle.pipe_sched.proofs.Told.{room_for}
use Rattle.step_eval.proofs.PhaseLemmas.{job_parts}
use Rattle.pipe_sched.proofs.Writes.{job_is_in_model}
use Rattle.pipe_sched.proofs.state.PipeState.due_job.Goals as goal

pub job_at-requires-clause-place : goal.job_at-requires-clause-place
job_at-requires-clause-place c =
    (room_for c.self.inside.nested c.self.inside.slots.items c.args.self.now c.args.member c.args.phase c.self.view_is c.self.invariant.kept c.requires).member

pub job_at-requires-clause-phase : goal.job_at-requires-clause-phase
job_at-requires-clause-phase c =
    (room_for c.self.inside.nested c.self.inside.slots.items c.args.self.now c.args.member c.args.phase c.self.view_is c.self.invariant.kept c.requires).phase

pub job_at-requires-clause-cells : goal.job_at-requires-clause-cells
job_at-requires-clause-cells c =
    ap length c.in_ok-store.ensures
    ∙ length_after (written_before (piped_writes (nested_of c.args.self.now.nested)) c.args.member c.args.phase) c.args.self.now.nested.store
    ∙ ap (λ (p : PipeParts). length p.nested.store) (sym c.self.view_is)

pub returns-clause-own : goal.returns-clause-own
returns-clause-own c =
    IfOk-weaker c.job_at.result _ _
    (λ job e. job_is_in_model c.self.inside.nested c.self.inside.slots.items c.args.self.now c.args.member c.args.phase c.in_ok-store.store job c.self.view_is c.in_ok-store.ensures e)
    c.job_at.ensures

pub returns-clause-place : goal.returns-clause-place
returns-clause-place c =
    IfOk-weaker c.job_at.result _ _
    (λ job e. (job_parts (nested_of c.self.inside.nested) c.args.phase c.in_ok-store.store c.args.member (job_of job) e).its_place)
    c.job_at.ensures

pub returns-clause-phase : goal.returns-clause-phase
returns-clause-phase c =
    IfOk-weaker c.job_at.result _ _
    (λ job e. (job_parts (nested_of c.self.inside.nested) c.args.phase c.in_ok-store.store c.args.member (job_of job) e).its_phase)
    c.job_at.ensures

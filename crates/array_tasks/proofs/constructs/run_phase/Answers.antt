use Rattle.std.proofs.Common.{◌≡◌, ◌+◌, map, ap, sym, ◌∙◌, subst}
use Rattle.array_eval.specs.Traces.{noted_all}
use Rattle.array_jobs.specs.Jobs.{job_of}
use Rattle.step_eval.specs.Nests.{nested_of, jobs_in}
use Rattle.step_eval.specs.Inside.Computed.{writes_of_jobs, HasReached}
use Rattle.step_eval.proofs.ComputeLemmas.{reached_next}
use Rattle.array_tasks.specs.Merging.{writes_in}
use Rattle.array_tasks.proofs.Merged.{writes_of_outputs}
use Rattle.array_tasks.proofs.constructs.run_phase.Goals as goal

pub returns-clause-reached : goal.returns-clause-reached
returns-clause-reached g c =
    let nested = nested_of c.args.nested.now in
    let store = c.args.store.now in
    let jobs : map job_of c.in_ok-jobs.jobs.items ≡ jobs_in nested c.args.phase store.cells
    = c.in_ok-jobs.ensures.jobs ∙ ap (jobs_in nested c.args.phase) c.in_ok-start.ensures.values in
    let writes = ap writes_in c.deref.ensures.value
    ∙ writes_of_outputs c.in_ok-tasks.tasks.items c.in_ok-outputs.outputs.items c.in_ok-outputs.ensures.outputs
    ∙ ap (λ js. writes_of_jobs (map job_of js)) c.in_ok-tasks.ensures.jobs
    ∙ ap writes_of_jobs jobs in
    let merged = c.merge_all.ensures ∙ ap (λ ws. noted_all ws c.to_store.new.self) writes
    ∙ ap (noted_all (writes_of_jobs (jobs_in nested c.args.phase store.cells))) c.to_store.ensures.same in
    subst (HasReached nested (c.args.phase + 1)) (sym merged) (reached_next nested c.requires.fit c.args.phase c.requires.phase store c.requires.reached)

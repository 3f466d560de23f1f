use Rattle.std.proofs.Common.{◌≡◌, ◌+◌, map, ap, ◌∙◌, subst}
use Rattle.std.specs.Prelude.{OnOk}
use Rattle.std.proofs.lemmas.Result.{on_ok_weaker}
use Rattle.array_eval.specs.Traces.{noted_all}
use Rattle.array_jobs.specs.Jobs.{job_of}
use Rattle.step_eval.specs.Nests.{nested_of, jobs_in}
use Rattle.step_eval.specs.Inside.Computed.{writes_of_jobs, HasReached}
use Rattle.step_eval.proofs.ComputeLemmas.{reached_next}
use Rattle.step_eval.proofs.computing.run_phase.Goals as goal

pub returns : goal.returns
returns c =
    let nested = nested_of c.args.nested.now in
    let jobs : map job_of c.deref.result.now ≡ jobs_in nested c.args.phase c.args.store.now.cells
    = ap (map job_of) c.deref.ensures.value ∙ c.in_ok-jobs.ensures.jobs ∙ ap (jobs_in nested c.args.phase) c.in_ok-start.ensures.values in
    let next = reached_next nested c.requires.fit c.args.phase c.requires.phase c.args.store.now c.requires.reached in
    let same : c.merge_pieces.new.store ≡ noted_all (writes_of_jobs (map job_of c.deref.result.now)) c.args.store.now → HasReached nested (c.args.phase + 1) c.merge_pieces.new.store
    = λ e. rw (e ∙ ap (λ js. noted_all (writes_of_jobs js) c.args.store.now) jobs) next in
    on_ok_weaker c.merge_pieces.result same
    (subst (λ store. OnOk c.merge_pieces.result (c.merge_pieces.new.store ≡ noted_all (writes_of_jobs (map job_of c.deref.result.now)) store)) c.to_store.ensures.same c.merge_pieces.ensures)

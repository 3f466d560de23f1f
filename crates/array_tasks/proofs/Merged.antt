-- The merged outputs of tasks are the merged writes of their jobs.
use Rattle.std.proofs.Common.{◌≡◌, ℕ, suc, ◌+◌, ◌<◌, List, [], ◌∷◌, ◌++◌, map, length, drop, get_or, drop-cons, refl, sym, ap, ◌∙◌, add-one}
use Rattle.std.specs.List.{AllZip}
use Rattle.array_eval.specs.Overlays.{Laid}
use Rattle.array_eval.specs.Traces.{Trace, noted_all}
use Rattle.array_eval.proofs.TraceLemmas.{noted_append}
use Rattle.array_jobs.specs.Jobs.{job_of}
use Rattle.array_jobs.specs.PieceParts.{piece_of_job}
use Rattle.step_eval.specs.Inside.Computed.{writes_of_jobs}
use Rattle.array_tasks.specs.Merging.{writes_in}
use Rattle.array_tasks.specs.declared.job_task.JobTask.{JobTask}

-- The outputs of tasks are the writes of their jobs.
pub writes_of_outputs : (tasks : List JobTask) (outputs : List Laid) → AllZip (λ task output. output.pairs ≡ piece_of_job (job_of task.job)) tasks outputs
    → writes_in outputs ≡ writes_of_jobs (map job_of (map (λ task. task.job) tasks))
writes_of_outputs [] [] z = refl
writes_of_outputs [] (y ∷ ys) z = absurd z
writes_of_outputs (x ∷ xs) [] z = absurd z
writes_of_outputs (x ∷ xs) (y ∷ ys) z = ap (λ ws. ws ++ writes_in ys) z.0 ∙ ap (λ ws. piece_of_job (job_of x.job) ++ ws) (writes_of_outputs xs ys z.1)

-- One overlay more is merged, and the others are left.
pub merged_more : (outputs : List Laid) (i : ℕ) (output : Laid) (store next all : Trace) → i < length outputs → output ≡ get_or outputs i output
    → next ≡ noted_all output.pairs store → noted_all (writes_in (drop i outputs)) store ≡ all → noted_all (writes_in (drop (i + 1) outputs)) next ≡ all
merged_more outputs i output store next all h is merged whole =
    let cut : drop i outputs ≡ output ∷ drop (i + 1) outputs
    = drop-cons outputs i output h ∙ ap (λ o. o ∷ drop (suc i) outputs) (sym is) ∙ ap (λ k. output ∷ drop k outputs) (sym (add-one i)) in
    ap (noted_all (writes_in (drop (i + 1) outputs))) merged
    ∙ sym (noted_append output.pairs (writes_in (drop (i + 1) outputs)) store)
    ∙ ap (λ os. noted_all (writes_in os) store) (sym cut)
    ∙ whole

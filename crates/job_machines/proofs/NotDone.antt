-- The jobs that aren't done are fresh.
use Rattle.std.proofs.Common.{ℕ, ◌+◌, ◌-◌, ◌<◌, ◌≤◌, inl, inr, List, [], ◌∷◌, refl, subst}
use Rattle.array_meaning.specs.Pieces.{IsMember}
use Rattle.array_meaning.specs.Plans.{statement_sites_in}
use Rattle.array_meaning.specs.Stores.{arrays_of}
use Rattle.array_jobs.specs.Works.{sites_of}
use Rattle.array_jobs.specs.Jobs.{JobTree}
use Rattle.job_machines.specs.Constructs.{IsInside, JobsNotDoneAreFresh}
use Rattle.job_machines.proofs.Serving.{other_jobs_are_fresh}
use Rattle.job_machines.proofs.Laid.{jobs_have_own_sites}

-- A number inside jobs is inside one of them.
inside_some : (x : ℕ) (jobs : List JobTree) → IsInside x jobs → (job : JobTree) × IsMember job jobs × (job.first ≤ x) × (x < job.first + sites_of job.work)
inside_some x [] h = absurd h
inside_some x (job ∷ jobs) (inl here) = (job, inl refl, here.0, here.1)
inside_some x (job ∷ jobs) (inr later) = let r = inside_some x jobs later in (r.0, inr r.1, r.2, r.3)

pub jobs_not_done_are_fresh : JobsNotDoneAreFresh
jobs_not_done_are_fresh p start es nested done job fit served all is new =
    let own = jobs_have_own_sites nested fit job is in
    other_jobs_are_fresh p start es (arrays_of nested.arrays) (nested.site + 1) (statement_sites_in nested.construct - 1) done job served own.inside
    (λ x low high h. let r = inside_some x done h in new (subst (λ (j : JobTree). IsMember j done) (own.alone r.0 x (all r.0 r.1) low high r.2 r.3) r.1))

-- Jobs of a construct, and the body of a program.
use Rattle.std.proofs.Common.{◌≡◌, ℕ, ◌+◌, ◌-◌, inl, inr, List, [], ◌∷◌, sym, ap, subst}
use Rattle.array_meaning.specs.Stores.{Store, arrays_of}
use Rattle.array_meaning.specs.Plans.{statement_sites_in}
use Rattle.array_meaning.specs.Pieces.{IsMember}
use Rattle.entered_laws.proofs.Parts.{entered_is_complete}
use Rattle.transfer_table.proofs.Algebra.{all_are_fresh_at_first}
use Rattle.array_jobs.specs.Works.{WorkTree, sites_of}
use Rattle.array_jobs.specs.Jobs.{JobTree}
use Rattle.array_jobs.specs.Bodies.{body_of}
use Rattle.step_eval.specs.Nests.{NestedTree, earlier_sites, numbered, piece_trees}
use Rattle.step_eval.specs.Phases.{store_before}
use Rattle.job_machines.proofs.Parts.{jobs_are_parts, bodies_are_parts}
use Rattle.job_machines.specs.Constructs.{IsOverJob}
use Rattle.job_machines.proofs.Laid.{jobs_have_own_sites}
use Rattle.job_machines.proofs.NotDone.{jobs_not_done_are_fresh}
use Rattle.job_machines.proofs.Serving.{serving_goes_on}
use Rattle.job_machines.specs.Machines.{BodiesAreFresh, BodiesAreRun}
use Rattle.job_machines.specs.Serving.{JobsAreFresh, JobsAreDone}

pub bodies_are_fresh : BodiesAreFresh
bodies_are_fresh program p is = record {
  part = (bodies_are_parts program p is).0;
  fresh = (let body = body_of program in all_are_fresh_at_first p body.first (sites_of body.work));
}

pub bodies_are_run : BodiesAreRun
bodies_are_run program p es t is plan leads ran = entered_is_complete program p es t is plan leads ran.over

pub jobs_are_fresh : JobsAreFresh
jobs_are_fresh p start es nested done job fit has serving own is new = record {
  part = (jobs_are_parts p nested is.phase (store_before nested is.phase) is.small has job is.one).1;
  fresh = jobs_not_done_are_fresh p start es nested done job fit serving own is new;
}

-- A job of a construct has the construct's arrays.
arrays_in : (nested : NestedTree) (phase : ℕ) (store : Store) (place first : ℕ) (works : List WorkTree) (job : JobTree) → IsMember job (numbered nested phase store place first works) → job.arrays ≡ nested.arrays
arrays_in nested phase store place first [] job is = absurd is
arrays_in nested phase store place first (work ∷ works) job (inl same) = sym (ap (λ (j : JobTree). j.arrays) same)
arrays_in nested phase store place first (work ∷ works) job (inr is) = arrays_in nested phase store (place + 1) (first + sites_of work) works job is

pub jobs_are_done : JobsAreDone
jobs_are_done p start es es' nested done job fit serving is ran =
    let arrays = arrays_in nested is.phase (store_before nested is.phase) 0 (nested.site + 1 + earlier_sites nested.construct is.phase) (piece_trees nested.construct is.phase) job is.one in
    let own = jobs_have_own_sites nested fit job is in
    serving_goes_on p start es es' (arrays_of nested.arrays) (nested.site + 1) (statement_sites_in nested.construct - 1) done job serving own.inside
    (subst (λ ds. IsOverJob p es' (arrays_of ds) job) arrays ran.over) ran.grown ran.outside

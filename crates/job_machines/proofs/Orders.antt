-- The jobs of a construct, run phase after phase, in each phase in the order of their indices.
use Rattle.std.proofs.Common.{◌≡◌, ℕ, zero, suc, ◌+◌, ◌<◌, ◌≤◌, ◌⊎◌, inl, inr, List, [], ◌∷◌, length, Option, None, Some, slice_get, refl, sym, ap, subst, ◌∙◌, arith}
use Rattle.std.proofs.Math.Nat.{eq-or-lt_of_le}
use Rattle.std.proofs.lemmas.Option.{slice_get_past, slice_get_within, same_Some}
use Rattle.array_meaning.specs.Pieces.{IsMember}
use Rattle.array_jobs.specs.Jobs.{JobTree}
use Rattle.step_eval.specs.Nests.{NestedTree, phases_of}
use Rattle.step_eval.specs.Phases.{store_before}
use Rattle.step_eval.proofs.PhaseLemmas.{IsNumbered, job_parts}
use Rattle.job_machines.specs.Constructs.{IsJobOf}
use Rattle.job_machines.specs.Machines.{IsFreshJob}
use Rattle.job_machines.specs.Serving.{IsServing, AreJobsOf, HaveAllJobs}
use Rattle.job_machines.specs.Orders.{with_job, upto, phase_jobs, jobs_before, done_at, ServingStarts, NextJobsAreFresh, NextJobsAreDone, PhasesTurn, ServedHaveEnded, ServedAreRun}
use Rattle.job_machines.proofs.Jobs.{jobs_are_fresh, jobs_are_done}
use Rattle.job_machines.proofs.Closing.{constructs_open, children_have_ended, constructs_end}

-- ---- the first jobs

-- A job and its index.
record IsAt (jobs : List JobTree) (job : JobTree) : Type 0 where
  place : ℕ
  found : slice_get jobs place ≡ Some job

at_member : (jobs : List JobTree) (k : ℕ) (job : JobTree) → slice_get jobs k ≡ Some job → IsMember job jobs
at_member [] k job e = absurd (cc)
at_member (first ∷ more) zero job e = inl (same_Some first job e)
at_member (first ∷ more) (suc k) job e = inr (at_member more k job e)

member_at : (jobs : List JobTree) (job : JobTree) → IsMember job jobs → IsAt jobs job
member_at [] job is = absurd is
member_at (first ∷ more) job (inl same) = record { place = 0; found = ap (λ (j : JobTree). Some j) same }
member_at (first ∷ more) job (inr is) = (let it = member_at more job is in record { place = suc it.place; found = it.found })

-- A job of the list at a lower index.
record IsEarlier (jobs : List JobTree) (k : ℕ) (job : JobTree) : Type 0 where
  at : IsAt jobs job
  low : at.place < k

earlier_on : (before jobs : List JobTree) (k : ℕ) (job : JobTree) → IsMember job before ⊎ IsEarlier jobs k job → IsMember job before ⊎ IsEarlier jobs (suc k) job
earlier_on before jobs k job (inl is) = inl is
earlier_on before jobs k job (inr is) = inr (record { at = is.at; low = (let low = is.low in omega (arith, low)) })

from_upto : (before jobs : List JobTree) (k : ℕ) (job : JobTree) → IsMember job (upto before jobs k) → IsMember job before ⊎ IsEarlier jobs k job
from_upto before jobs zero job is = inl is
from_upto before jobs (suc k) job is = of (slice_get jobs k) refl is (λ other. earlier_on before jobs k job (from_upto before jobs k job other))
  where
    of : (o : Option JobTree) → slice_get jobs k ≡ o → IsMember job (with_job o (upto before jobs k)) → (IsMember job (upto before jobs k) → IsMember job before ⊎ IsEarlier jobs (suc k) job) →
        IsMember job before ⊎ IsEarlier jobs (suc k) job
    of None e other others = others other
    of (Some last) e (inl same) others = inr (record { at = record { place = k; found = e ∙ ap (λ (j : JobTree). Some j) same }; low = omega arith })
    of (Some last) e (inr other) others = others other

with_more : (o : Option JobTree) (done : List JobTree) (job : JobTree) → IsMember job done → IsMember job (with_job o done)
with_more None done job is = is
with_more (Some last) done job is = inr is

upto_keeps : (before jobs : List JobTree) (k : ℕ) (job : JobTree) → IsMember job before → IsMember job (upto before jobs k)
upto_keeps before jobs zero job is = is
upto_keeps before jobs (suc k) job is = with_more (slice_get jobs k) (upto before jobs k) job (upto_keeps before jobs k job is)

upto_has : (before jobs : List JobTree) (k i : ℕ) (job : JobTree) → slice_get jobs i ≡ Some job → i < k → IsMember job (upto before jobs k)
upto_has before jobs zero i job e less = absurd (omega (arith, less))
upto_has before jobs (suc k) i job e less = of (eq-or-lt_of_le {n = i} {m = k} (omega (arith, less))) (upto_has before jobs k i job e)
  where
    of : (i ≡ k) ⊎ (i < k) → (i < k → IsMember job (upto before jobs k)) → IsMember job (upto before jobs (suc k))
    of (inl same) others = subst (λ o. IsMember job (with_job o (upto before jobs k))) (sym e ∙ ap (slice_get jobs) same) (inl refl)
    of (inr lower) others = with_more (slice_get jobs k) (upto before jobs k) job (others lower)

-- There is no job past the last one.
upto_past : (before jobs : List JobTree) (k : ℕ) → length jobs ≤ k → upto before jobs k ≡ upto before jobs (length jobs)
upto_past before jobs zero less = (let none : 0 ≡ length jobs = omega (arith, less) in ap (upto before jobs) none)
upto_past before jobs (suc k) less = of (eq-or-lt_of_le less) (upto_past before jobs k)
  where
    of : (length jobs ≡ suc k) ⊎ (length jobs < suc k) → (length jobs ≤ k → upto before jobs k ≡ upto before jobs (length jobs)) → upto before jobs (suc k) ≡ upto before jobs (length jobs)
    of (inl same) others = ap (upto before jobs) (sym same)
    of (inr lower) others = (
        let past : length jobs ≤ k = omega (arith, lower) in
        ap (λ o. with_job o (upto before jobs k)) (slice_get_past jobs k past) ∙ others past
        )

-- ---- jobs name their phase and their index

phase_numbers : (nested : NestedTree) (phase k : ℕ) (job : JobTree) → slice_get (phase_jobs nested phase) k ≡ Some job →
    IsNumbered nested phase (store_before nested phase) k job
phase_numbers nested phase k job e = job_parts nested phase (store_before nested phase) k job e

-- ---- the jobs done up to an index

-- A job of an earlier phase.
record IsBefore (nested : NestedTree) (phase : ℕ) (job : JobTree) : Type 0 where
  its : ℕ
  low : its < phase
  at : IsAt (phase_jobs nested its) job

from_before : (nested : NestedTree) (phase : ℕ) (job : JobTree) → IsMember job (jobs_before nested phase) → IsBefore nested phase job
from_before nested zero job is = absurd is
from_before nested (suc phase) job is = of (from_upto (jobs_before nested phase) (phase_jobs nested phase) (length (phase_jobs nested phase)) job is) (from_before nested phase job)
  where
    of : IsMember job (jobs_before nested phase) ⊎ IsEarlier (phase_jobs nested phase) (length (phase_jobs nested phase)) job → (IsMember job (jobs_before nested phase) → IsBefore nested phase job) →
        IsBefore nested (suc phase) job
    of (inl other) others = (
        let it = others other in
        let low = it.low in
        record { its = it.its; low = omega (arith, low); at = it.at }
        )
    of (inr here) others = record { its = phase; low = omega arith; at = here.at }

-- All jobs of the earlier phases are among those done.
all_before : (nested : NestedTree) (phase its : ℕ) (job : JobTree) → its < phase → IsMember job (phase_jobs nested its) → IsMember job (jobs_before nested phase)
all_before nested zero its job less is = absurd (omega (arith, less))
all_before nested (suc phase) its job less is = of (eq-or-lt_of_le {n = its} {m = phase} (omega (arith, less))) (λ lower. all_before nested phase its job lower is)
  where
    of : (its ≡ phase) ⊎ (its < phase) → (its < phase → IsMember job (jobs_before nested phase)) → IsMember job (jobs_before nested (suc phase))
    of (inl same) others = (
        let it = member_at (phase_jobs nested phase) job (subst (λ n. IsMember job (phase_jobs nested n)) same is) in
        upto_has (jobs_before nested phase) (phase_jobs nested phase) (length (phase_jobs nested phase)) it.place job it.found
        (slice_get_within (phase_jobs nested phase) it.place job it.found)
        )
    of (inr lower) others = upto_keeps (jobs_before nested phase) (phase_jobs nested phase) (length (phase_jobs nested phase)) job (others lower)

all_jobs : (nested : NestedTree) → HaveAllJobs nested (done_at nested (phases_of nested.construct) 0)
all_jobs nested phase small job is = all_before nested (phases_of nested.construct) phase job small is

done_are_jobs : (nested : NestedTree) (phase k : ℕ) → phase < phases_of nested.construct → AreJobsOf nested (done_at nested phase k)
done_are_jobs nested phase k small job is = of (from_upto (jobs_before nested phase) (phase_jobs nested phase) k job is)
  where
    of : IsMember job (jobs_before nested phase) ⊎ IsEarlier (phase_jobs nested phase) k job → IsJobOf nested job
    of (inl earlier) = (
        let it = from_before nested phase job earlier in
        let low = it.low in
        record { phase = it.its; small = omega (arith, low, small); one = at_member (phase_jobs nested it.its) it.at.place job it.at.found }
        )
    of (inr here) = record { phase = phase; small = small; one = at_member (phase_jobs nested phase) here.at.place job here.at.found }

-- The job at the next index isn't among those done.
next_is_new : (nested : NestedTree) (phase k : ℕ) (job : JobTree) → slice_get (phase_jobs nested phase) k ≡ Some job → IsMember job (done_at nested phase k) → ⊥
next_is_new nested phase k job e is = of (from_upto (jobs_before nested phase) (phase_jobs nested phase) k job is)
  where
    own : IsNumbered nested phase (store_before nested phase) k job
    own = phase_numbers nested phase k job e

    of : IsMember job (jobs_before nested phase) ⊎ IsEarlier (phase_jobs nested phase) k job → ⊥
    of (inl earlier) = (
        let it = from_before nested phase job earlier in
        let low = it.low in
        let same : it.its ≡ phase = sym (phase_numbers nested it.its it.at.place job it.at.found).its_phase ∙ own.its_phase in
        omega (arith, low, same)
        )
    of (inr here) = (
        let low = here.low in
        let same : here.at.place ≡ k = sym (phase_numbers nested phase here.at.place job here.at.found).its_place ∙ own.its_place in
        omega (arith, low, same)
        )

-- ---- the laws

pub serving_starts : ServingStarts
serving_starts p outer es hart nested plan fit is = record {
  outer = outer;
  part = is.part;
  here = refl;
  fit = fit;
  served = constructs_open p outer es hart nested plan is;
}

its_job : (nested : NestedTree) (phase k : ℕ) (job : JobTree) → phase < phases_of nested.construct → slice_get (phase_jobs nested phase) k ≡ Some job → IsJobOf nested job
its_job nested phase k job small e = record { phase = phase; small = small; one = at_member (phase_jobs nested phase) k job e }

pub next_jobs_are_fresh : NextJobsAreFresh
next_jobs_are_fresh p around start es nested phase k job small e has =
    subst (λ s. IsFreshJob p s es job) (sym has.here)
    (jobs_are_fresh p start es nested (done_at nested phase k) job has.fit has.part.inside has.served (done_are_jobs nested phase k small) (its_job nested phase k job small e)
    (next_is_new nested phase k job e))

pub next_jobs_are_done : NextJobsAreDone
next_jobs_are_done p around start es es' nested phase k job small e has ran =
    let done = done_at nested phase k in
    let now = jobs_are_done p start es es' nested done job has.fit has.served (its_job nested phase k job small e) ran in
    record {
      outer = has.outer;
      part = has.part;
      here = has.here;
      fit = has.fit;
      served = subst (λ o. IsServing p start es' nested (with_job o done)) (sym e) now;
    }

pub phases_turn : PhasesTurn
phases_turn p around start es nested phase k less has = record {
  outer = has.outer;
  part = has.part;
  here = has.here;
  fit = has.fit;
  served = subst (IsServing p start es nested) (upto_past (jobs_before nested phase) (phase_jobs nested phase) k less) has.served;
}

pub served_have_ended : ServedHaveEnded
served_have_ended p around start es nested plan has c site above =
    children_have_ended p has.outer start es nested (done_at nested (phases_of nested.construct) 0) plan has.fit has.part has.served (all_jobs nested) c site (above ∙ has.here)

pub served_are_run : ServedAreRun
served_are_run p before es hart nested plan has =
    constructs_end p before es hart nested (done_at nested (phases_of nested.construct) 0) plan has.fit has.served (all_jobs nested)

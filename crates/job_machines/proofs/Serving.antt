-- The jobs of a construct are done one by one, in any order.
use Rattle.std.proofs.Common.{ℕ, zero, suc, ◌+◌, ◌-◌, ◌<◌, ◌≤◌, ◌⊎◌, inl, inr, ⊎_elim, [], ◌∷◌, ◌++◌, refl, subst, ◌∙◌, arith}
use Rattle.transfer_table.specs.Entry.{unregisters}
use Rattle.transfer_table.specs.declared.entry.Entry.TheVariants.{Register, Unregister}
use Rattle.transfer_table.proofs.Balance.{unregisters-here}
use Rattle.transfer_table.specs.Accounts.{IsFresh}
use Rattle.transfer_table.proofs.Algebra.{over_lasts, kept_joins}
use Rattle.transfer_table.proofs.Touches.{entries_touch_little}
use Rattle.array_meaning.specs.Stores.{arrays_of}
use Rattle.array_meaning.specs.Plans.{statement_sites_in}
use Rattle.array_jobs.specs.Works.{sites_of}
use Rattle.job_machines.specs.Entering.{work_entered}
use Rattle.job_machines.specs.Constructs.{IsOverJob, ServingBegins, OtherJobsAreFresh, ServingGoesOn, ServedConstructsAreRun}
use Rattle.job_machines.proofs.Accounts.{grown_then}
use Rattle.job_machines.proofs.Each.{constructs_are_over}

pub serving_begins : ServingBegins
serving_begins p es arrays s n fresh = record {
  over = λ job is. absurd is;
  fresh = λ x site low high. inl (fresh x site low high);
  grown = record { went = λ x. omega arith; skipped = λ x. omega arith };
  outside = λ x site out. record { came = refl; went = refl; skipped = refl };
}

pub other_jobs_are_fresh : OtherJobsAreFresh
other_jobs_are_fresh p start es arrays s n done job served lies apart x site low high =
    let in_bounds = lies (omega (arith, low, high)) in
    let a = in_bounds.0 in
    let b = in_bounds.1 in
    ⊎_elim (λ fresh. fresh) (λ inside. absurd (apart x low high inside)) (served.fresh x site (omega (arith, low, a)) (omega (arith, high, b)))

-- A number is before an interval, in it, or behind it.
where_is : (x f m : ℕ) → ((f ≤ x) × (x < f + m)) ⊎ ((x < f) ⊎ (f + m ≤ x))
where_is x f m = elim (sides x f) [
  | inl below ↦ inr (inl below)
  | inr above ↦ elim (sides x (f + m)) [
    | inl inside ↦ inl (above, inside)
    | inr behind ↦ inr (inr behind)
  ]
]
  where
    sides : (a b : ℕ) → (a < b) ⊎ (b ≤ a)
    sides a zero = inr (omega arith)
    sides zero (suc b) = inl (omega arith)
    sides (suc a) (suc b) = ⊎_elim (λ l. inl (omega (arith, l))) (λ r. inr (omega (arith, r))) (sides a b)

pub serving_goes_on : ServingGoesOn
serving_goes_on p start es es' arrays s n done job served lies over grown keeps = record {
  over = λ other is. ⊎_elim (λ same. subst (IsOverJob p es' arrays) same over)
      (λ old. over_lasts p es es' other.first (work_entered arrays other.work other.vars other.store) grown (served.over other old)) is;
  fresh = λ x site low high. ⊎_elim (λ inside. inr (inl inside))
      (λ out. let same = keeps x site out in
      ⊎_elim (λ (fresh : IsFresh p es x). inl record { unregistered = same.came ∙ fresh.unregistered; unskipped = same.skipped ∙ fresh.unskipped }) (λ old. inr (inr old)) (served.fresh x site low high))
      (where_is x job.first (sites_of job.work));
  grown = grown_then p start es es' served.grown grown;
  outside = λ x site out. ⊎_elim
      (λ inside. let low = inside.0 in let high = inside.1 in let in_bounds = lies (omega (arith, low, high)) in let a = in_bounds.0 in let b = in_bounds.1 in
      absurd (⊎_elim (λ l. omega (arith, l, low, a)) (λ r. omega (arith, r, high, b)) out))
      (λ other. let one = served.outside x site out in let two = keeps x site other in record { came = two.came ∙ one.came; went = two.went ∙ one.went; skipped = two.skipped ∙ one.skipped })
      (where_is x job.first (sites_of job.work));
}

pub served_constructs_are_run : ServedConstructsAreRun
served_constructs_are_run p before es hart nested done plan have fit some served all =
    let arrays = arrays_of nested.arrays in
    let s = nested.site in
    let n = statement_sites_in nested.construct in
    let came = entries_touch_little p before (Register hart s) plan in
    let went = entries_touch_little p es (Unregister hart s) plan in
    let start = before ++ Register hart s ∷ [] in
    let end = es ++ Unregister hart s ∷ [] in
    let own : 1 ≤ unregisters s end = (let one = unregisters-here es (Unregister hart s) in omega (arith, one)) in
    let le : s ≤ s = omega arith in
    let one : s + 1 ≤ s + n = omega (arith, some) in
    let inner : s ≤ s + 1 = omega arith in
    let last : s + 1 + (n - 1) ≤ s + n = omega (arith, some) in
    let whole : s + n ≤ s + n = omega arith in
    let first = kept_joins p before start es s 1 (s + 1) (n - 1) s n (came.own refl) served.outside le one inner last in
    record {
      over = constructs_are_over p end nested have fit own
          (λ phase small job is. over_lasts p es end job.first (work_entered arrays job.work job.vars job.store) went.grown (served.over job (all phase small job is)));
      grown = grown_then p before es end (grown_then p before start es came.grown served.grown) went.grown;
      outside = kept_joins p before es end s n s 1 s n first (went.own refl) le whole le one;
    }

-- The account of a team's sites, as the only hart serves the team.
use Rattle.std.proofs.Common.{◌≡◌, ℕ, suc, ◌≤◌, Bool, true, false, List, [], length, Result, Ok, Err, refl, sym, ap, ◌∙◌, subst, arith, inl, inr}
use Rattle.std.proofs.lemmas.Bool.{cases_eq}
use Rattle.std.proofs.lemmas.List.{length-map}
use Rattle.transfer_table.specs.Plan.{Plan}
use Rattle.transfer_table.specs.declared.entry.Entry.{Entry}
use Rattle.array_jobs.specs.Jobs.{JobParts, job_of}
use Rattle.array_jobs.specs.PieceParts.{PieceParts}
use Rattle.join_book.specs.Books.{BookParts, Filled, Open, marked_book}
use Rattle.lithe_barrier.specs.declared.state.Arrival.{Arrival}
use Rattle.lithe_barrier.specs.declared.state.Arrival.TheVariants.{Kept, Opened, Stranger}
use Rattle.sched_api.specs.declared.scheduler.Next.TheVariants.{Run, Nothing}
use Rattle.sched_api.specs.Wishes.{WishList}
use Rattle.sched_api.specs.Agenda.{AgendaParts, TakesNext}
use Rattle.step_eval.specs.Nests.{nested_of}
use Rattle.loop_team.specs.Teams.{TeamParts, IsOver, AreJobsIn, GoesOn, MovesOn, opened_team, with_barrier, with_agenda, with_phase, phases_in}
use Rattle.step_eval.specs.declared.work.Work.{Work}
use Rattle.step_eval.specs.declared.work.Work.TheVariants.{Begin, Ready}
use Rattle.job_machines.specs.Machines.{IsFreshJob, IsRunJob}
use Rattle.job_machines.specs.Orders.{HasServed}
use Rattle.job_machines.proofs.Orders.{next_jobs_are_fresh, next_jobs_are_done, phases_turn}
use Rattle.lone_hart.specs.Accounts.{Stands}
use Rattle.lone_hart.specs.Served.{ServesPhase, ServedPhases, LendsMember, serves_team, GivesLone}
use Rattle.lone_hart.specs.declared.site.LoneSite.TheVariants.{Team}
use Rattle.lone_hart.proofs.Accounts.{IsOneToOne, handed, hand_out, hand_out_less, none_out, came_back, all_back, out_place, seen_job, heard}
use Rattle.lone_hart.proofs.TeamAccounts.{are_group}

pub one_to_one : IsOneToOne Begin
one_to_one a b e = ap (λ (w : Work). job_or a w) e
  where
    job_or : JobParts → Work → JobParts
    job_or j (Begin job) = job
    job_or j (Ready c) = j

filled_open : Filled ≡ Open → ⊥
filled_open e = cc

pub team_lends : (p : Plan) (around : ℕ) (start es : List Entry) (before after : TeamParts) (job : JobParts) → ServesPhase p around start es before
    → TakesNext before.agenda (Run (Begin job)) after.agenda → after ≡ with_agenda before after.agenda → LendsMember p around start es after job × IsFreshJob p around es (job_of job)
team_lends p around start es before after job serves taken same =
    let k = serves.done in
    let next = handed Begin one_to_one before.barrier before.agenda after.agenda job k serves.stands taken in (
      subst (λ t. LendsMember p around start es t job) (sym same) record { jobs = serves.jobs; done = k; own = next.0; stands = next.1; served = serves.served },
      next_jobs_are_fresh p around start es (nested_of before.nested) before.opened k (job_of job) serves.jobs.there (seen_job before.barrier.jobs _ k job serves.jobs.same next.0) serves.served,
    )

-- A team that is done gives nothing. Otherwise it gives its next job.
pub team_rests : (team : TeamParts) → IsOver team → GivesLone (Team team) Nothing (Team team)
team_rests team done settled =
    record { construct = refl; left = omega arith; account = settled; over = λ is home. done; served = λ p around start es serving. serving }

pub team_gives : (before : TeamParts) (after : AgendaParts Work) (job : JobParts) → ¬ IsOver before → TakesNext before.agenda (Run (Begin job)) after →
    GivesLone (Team before) (Run job) (Team (with_agenda before after))
team_gives before after job never taken (inl over) = absurd (never over)
team_gives before after job never taken (inr runs) = record {
  construct = refl;
  left = (let less = hand_out_less (Begin job) before.agenda after runs.account.1.none_ready taken in omega (arith, less));
  account = hand_out Begin one_to_one before.barrier before.agenda after job runs.account taken;
  over = λ is. absurd (goes_on is);
  served = λ p around start es serving. elim serving.1 [
    | inl failed ↦ absurd (never (inr failed))
    | inr well ↦ elim well [
      | inl served ↦ absurd (never (inl served.last))
      | inr phase ↦ let lends = team_lends p around start es before (with_agenda before after) job phase taken refl in ((serving.0, lends.0), (serving.0, lends.1))
    ]
  ];
}
  where
    goes_on : Run job ≡ Nothing → ⊥
    goes_on e = cc

-- The opened phase is the last one, or the next one can be begun.
turned : (p : Plan) (around : ℕ) (start es : List Entry) (now after : TeamParts) → HasServed p around start es (nested_of now.nested) now.opened 0 → now.agenda.ready ≡ [] → GoesOn now after →
    (failed : Bool) → now.failed ≡ failed → serves_team after p around start es
turned p around start es now after served none goes true is = inl (ap (λ (t : TeamParts). t.failed) (goes.over (inr is)) ∙ is)
turned p around start es now after served none goes false is = elim (cases_eq now.opened (phases_in now.nested)) [
  | inl last ↦ inr (inl (subst (ServedPhases p around start es) (sym (goes.over (inl last))) record { last = last; served = served }))
  | inr more ↦
      let not_over : ¬ IsOver now = λ over. elim over [
        | inl last ↦ more last
        | inr failed ↦ (let clash : true ≡ false = sym failed ∙ is in cc)
      ] in
      let next = goes.next not_over in
      let jobs = after.barrier.jobs in
      inr (inr (subst (ServesPhase p around start es) (sym next.1) record {
        jobs = next.0;
        done = 0;
        stands = none_out Begin jobs (with_phase now jobs).agenda (are_group now.nested served.fit now.opened jobs next.0) none refl;
        served = served;
      }))
]

pub team_arrives : {E : Type 0} (p : Plan) (around : ℕ) (start es es' : List Entry) (before after : TeamParts) (piece : PieceParts) (answer : Result Arrival E) → MovesOn before piece answer after
    → LendsMember p around start es before piece.job → IsRunJob p es es' (job_of piece.job) → serves_team after p around start es'
team_arrives {E} p around start es es' before after piece answer moves lends ran = arrives answer moves
  where
    k : ℕ
    k = lends.done

    there : piece.job.place ≡ k
    there = lends.stands.own k piece.job lends.own

    served : HasServed p around start es' (nested_of before.nested) before.opened (suc k)
    served = next_jobs_are_done p around start es es' (nested_of before.nested) before.opened k (job_of piece.job) lends.jobs.there (seen_job before.barrier.jobs _ k piece.job lends.jobs.same lends.own) lends.served ran

    back : (book : BookParts) → book ≡ marked_book before.barrier piece.job.place Filled → Stands Begin book before.agenda (suc k) (suc k)
    back book is = subst (λ (b : BookParts). Stands Begin b before.agenda (suc k) (suc k)) (sym (subst (λ i. book ≡ marked_book before.barrier i Filled) there is))
        (came_back Begin before.barrier before.agenda k Filled filled_open lends.stands)

    arrives : (answer : Result Arrival E) → MovesOn before piece answer after → serves_team after p around start es'
    arrives (Ok Kept) moves = inr (inr (subst (ServesPhase p around start es') (sym moves.1) record {
      jobs = subst (AreJobsIn before.nested before.opened) (sym (ap (λ (b : BookParts). b.jobs) moves.0.0.filled)) lends.jobs;
      done = suc k;
      stands = back after.barrier moves.0.0.filled;
      served = served;
    }))
    arrives (Ok (Opened written)) (full, opens, goes) =
        let stands = back full opens.arrives.0.filled in
        let all = all_back Begin full before.agenda (suc k) (suc k) stands opens.arrives.1 in
        let size = sym (length-map before.barrier.jobs job_of) ∙ ap length lends.jobs.same in
        let same : length full.jobs ≡ length before.barrier.jobs = ap (λ (b : BookParts). length b.jobs) opens.arrives.0.filled in
        let few = subst (λ n. n ≤ suc k) (same ∙ size) all in
        turned p around start es' (opened_team (with_barrier before full)) after (phases_turn p around start es' (nested_of before.nested) before.opened (suc k) few served) lends.stands.none_ready goes before.failed refl
    arrives (Ok (Stranger given)) moves =
        let place = out_place Begin before.barrier before.agenda piece.job k lends.own lends.stands in
        absurd (moves.0.0 k place.2 place.1)
    arrives (Err refused) (full, fails) = inl (ap (λ (t : TeamParts). t.failed) fails.failed)

-- If the team is done and not failed, all phases were run.
pub team_ends : (p : Plan) (around : ℕ) (start es : List Entry) (t : TeamParts) → serves_team t p around start es → t.failed ≡ false → IsOver t →
    HasServed p around start es (nested_of t.nested) (phases_in t.nested) 0
team_ends p around start es t (inl failed) well over = absurd (let clash : true ≡ false = sym failed ∙ well in cc)
team_ends p around start es t (inr (inl served)) well over = subst (λ n. HasServed p around start es (nested_of t.nested) n 0) served.last served.served
team_ends p around start es t (inr (inr phase)) well (inl last) = let less = phase.jobs.there in absurd (omega (arith, less, last))
team_ends p around start es t (inr (inr phase)) well (inr failed) = absurd (let clash : true ≡ false = sym failed ∙ well in cc)

-- ---- a callback changes only the wishes
pub team_heard_serving : (p : Plan) (around : ℕ) (start es : List Entry) (t : TeamParts) (wishes : WishList) → serves_team t p around start es →
    serves_team (record t { agenda = record t.agenda { wishes = wishes } }) p around start es
team_heard_serving p around start es t wishes (inl failed) = inl failed
team_heard_serving p around start es t wishes (inr (inl phases)) = inr (inl record { last = phases.last; served = phases.served })
team_heard_serving p around start es t wishes (inr (inr phase)) = inr (inr record {
  jobs = phase.jobs;
  done = phase.done;
  stands = heard Begin t.barrier t.agenda wishes phase.done phase.done phase.stands;
  served = phase.served;
})

pub team_heard_lent : (p : Plan) (around : ℕ) (start es : List Entry) (t : TeamParts) (wishes : WishList) (job : JobParts) → LendsMember p around start es t job →
    LendsMember p around start es (record t { agenda = record t.agenda { wishes = wishes } }) job
team_heard_lent p around start es t wishes job lends = record {
  jobs = lends.jobs;
  done = lends.done;
  own = lends.own;
  stands = heard Begin t.barrier t.agenda wishes lends.done (suc lends.done) lends.stands;
  served = lends.served;
}

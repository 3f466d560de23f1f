-- Teams whose pieces return one by one.
use Rattle.std.proofs.Common.{◌≡◌, ◌⊎◌, ℕ, suc, ◌+◌, ◌-◌, ◌*◌, ◌<◌, ◌≤◌, Bool, true, false, List, [], ◌∷◌, map, length, Result, Ok, Err, refl, sym, ap, ◌∙◌, subst, arith, inl, inr}
use Rattle.std.proofs.lemmas.Bool.{cases_eq}
use Rattle.std.proofs.lemmas.List.{length-map}
use Rattle.std.proofs.lemmas.Nat.{mul-le}
use Rattle.std.proofs.Math.Nat.{suc-mul}
use Rattle.array_jobs.specs.Jobs.{JobParts, job_of}
use Rattle.array_jobs.specs.Groups.{IsGroup}
use Rattle.array_jobs.specs.PieceParts.{PieceParts}
use Rattle.join_book.specs.Books.{BookParts, Open, Filled, IsFull, marked_book, open_book}
use Rattle.lithe_barrier.specs.declared.state.Arrival.{Arrival}
use Rattle.lithe_barrier.specs.declared.state.Arrival.TheVariants.{Kept, Opened, Stranger}
use Rattle.step_eval.specs.Nests.{NestedParts, nested_of, IsFitNest}
use Rattle.step_eval.specs.Phases.{store_before}
use Rattle.step_eval.proofs.PhaseLemmas.{jobs_are_groups, jobs_are_counted}
use Rattle.loop_team.specs.Teams.{TeamParts, IsOver, AreJobsIn, GoesOn, MovesOn, opened_team, with_phase, with_barrier, phases_in, members_in}
use Rattle.step_eval.specs.declared.work.Work.TheVariants.{Begin}
use Rattle.lone_hart.specs.Accounts.{Stands, AllCameBack, AllButOneCameBack}
use Rattle.lone_hart.specs.Sites.{IsRunning, team_jobs_left}
use Rattle.lone_hart.proofs.Accounts.{none_out, came_back, out_place}

filled_open : Filled ≡ Open → ⊥
filled_open e = cc

-- An open book with a job isn't full.
not_full : (jobs : List JobParts) → 0 < length jobs → ¬ IsFull (open_book jobs)
not_full [] some is = omega arith
not_full (job ∷ jobs) some is = is 0 refl

-- The jobs of a phase are a group.
pub are_group : (nested : NestedParts) → IsFitNest (nested_of nested) → (phase : ℕ) (jobs : List JobParts) → AreJobsIn nested phase jobs → IsGroup (map job_of jobs)
are_group nested fit phase jobs are =
    subst IsGroup (sym are.same) (jobs_are_groups (nested_of nested) fit phase (store_before (nested_of nested) phase) are.there)

-- A team whose phase begins is running.
pub begins : (nested : NestedParts) → IsFitNest (nested_of nested) → (phase : ℕ) (jobs : List JobParts) → AreJobsIn nested phase jobs → (t : TeamParts) → t.barrier ≡ open_book jobs →
    t.agenda.ready ≡ [] → t.agenda.unbegun ≡ map Begin jobs → IsRunning t
begins nested fit phase jobs are t open_is none all =
    let group = are_group nested fit phase jobs are in
    record {
      waits = subst (λ (b : BookParts). ¬ IsFull b) (sym open_is) (not_full jobs (subst (λ n. 0 < n) (length-map jobs job_of) group.some));
      account = subst (λ (b : BookParts). AllCameBack Begin b t.agenda) (sym open_is) (0, none_out Begin jobs t.agenda group none all);
    }

plus_le : (n a b : ℕ) → a ≤ b → n + a ≤ n + b
plus_le n a b less = omega arith

swap_le : (m n a b : ℕ) → b ≡ a + m → m + a ≤ n + b
swap_le m n a b is = omega arith

-- The work of later phases doesn't grow with a phase that opens.
later_falls : (phases opened m n : ℕ) → n + (phases - suc (suc opened)) * m ≤ n + (phases - suc opened) * m
later_falls phases opened m n = plus_le n _ _ (mul-le (phases - suc (suc opened)) m (phases - suc opened) m (omega arith) (omega arith))

-- The members of the next phase were among those of later phases.
next_taken : (phases opened m n : ℕ) → suc opened < phases → m + (phases - suc (suc opened)) * m ≤ n + (phases - suc opened) * m
next_taken phases opened m n less =
    let one : phases - suc opened ≡ suc (phases - suc (suc opened)) = omega arith in
    swap_le m n ((phases - suc (suc opened)) * m) ((phases - suc opened) * m) (ap (λ k. k * m) one ∙ suc-mul (phases - suc (suc opened)) m)

pub record HasArrived (before after : TeamParts) : Type 0 where
  pub nested : after.nested ≡ before.nested
  pub left : team_jobs_left after ≤ team_jobs_left before
  pub account : IsOver after ⊎ IsRunning after

-- A phase has opened, and the team is done.
over_opened : (before after : TeamParts) (full : BookParts) → after ≡ opened_team (with_barrier before full) → IsOver (opened_team (with_barrier before full)) → HasArrived before after
over_opened before after full is over = subst (HasArrived before) (sym is) (record {
  nested = refl;
  left = later_falls (phases_in before.nested) before.opened (members_in before.nested) (length before.agenda.unbegun);
  account = inl over;
})

-- A phase has opened, and the next one can be begun.
next_opened : (before after : TeamParts) (full : BookParts) → IsFitNest (nested_of before.nested) → before.agenda.ready ≡ [] → AreJobsIn before.nested (suc before.opened) after.barrier.jobs →
    after ≡ with_phase (opened_team (with_barrier before full)) after.barrier.jobs → HasArrived before after
next_opened before after full fit none are is =
    let jobs = after.barrier.jobs in
    let next = with_phase (opened_team (with_barrier before full)) jobs in
    let size : length (map Begin jobs) ≡ members_in before.nested =
    length-map jobs Begin ∙ sym (length-map jobs job_of) ∙ ap length are.same
    ∙ jobs_are_counted (nested_of before.nested) (suc before.opened) (store_before (nested_of before.nested) (suc before.opened)) are.there in
    subst (HasArrived before) (sym is) (record {
      nested = refl;
      left = subst (λ n. n + (phases_in before.nested - suc (suc before.opened)) * members_in before.nested ≤ team_jobs_left before) (sym size)
          (next_taken (phases_in before.nested) before.opened (members_in before.nested) (length before.agenda.unbegun) are.there);
      account = inr (begins before.nested fit (suc before.opened) jobs are next refl none refl);
    })

not_over : (t : TeamParts) → (t.opened ≡ phases_in t.nested → ⊥) → t.failed ≡ false → ¬ IsOver t
not_over t more well (inl last) = more last
not_over t more well (inr failed) = let clash : true ≡ false = sym failed ∙ well in cc

goes_on : (before after : TeamParts) (full : BookParts) → IsFitNest (nested_of before.nested) → before.agenda.ready ≡ [] → GoesOn (opened_team (with_barrier before full)) after →
    (failed : Bool) → before.failed ≡ failed → HasArrived before after
goes_on before after full fit none goes true is = over_opened before after full (goes.over (inr is)) (inr is)
goes_on before after full fit none goes false is = elim (cases_eq (suc before.opened) (phases_in before.nested)) [
  | inl last ↦ over_opened before after full (goes.over (inl last)) (inl last)
  | inr more ↦ let next = goes.next (not_over (opened_team (with_barrier before full)) more is) in next_opened before after full fit none next.0 next.1
]

-- A piece that returned.
pub arrived : {E : Type 0} → (before after : TeamParts) (piece : PieceParts) (answer : Result Arrival E) → IsFitNest (nested_of before.nested) →
    AllButOneCameBack Begin before.barrier before.agenda piece.job → MovesOn before piece answer after → HasArrived before after
arrived before after piece (Ok Kept) fit (k, is, stands) moves =
    let place = out_place Begin before.barrier before.agenda piece.job k is stands in
    let full : after.barrier ≡ marked_book before.barrier k Filled = subst (λ i. after.barrier ≡ marked_book before.barrier i Filled) place.0 moves.0.0.filled in
    let next : IsRunning (with_barrier before after.barrier) = record {
      waits = moves.0.1;
      account = (suc k, subst (λ (b : BookParts). Stands Begin b before.agenda (suc k) (suc k)) (sym full) (came_back Begin before.barrier before.agenda k Filled filled_open stands));
    } in
    subst (HasArrived before) (sym moves.1) (record { nested = refl; left = omega arith; account = inr next })
arrived before after piece (Ok (Opened written)) fit (k, is, stands) (full, opens, goes) = goes_on before after full fit stands.none_ready goes before.failed refl
arrived before after piece (Ok (Stranger back)) fit (k, is, stands) moves =
    let place = out_place Begin before.barrier before.agenda piece.job k is stands in
    absurd (moves.0.0 k place.2 place.1)
arrived before after piece (Err refused) fit (k, is, stands) (full, fails) = subst (HasArrived before) (sym fails.failed) (record {
  nested = refl;
  left = later_falls (phases_in before.nested) before.opened (members_in before.nested) (length before.agenda.unbegun);
  account = inl (inr refl);
})

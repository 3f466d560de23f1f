-- Jobs that leave a pool, the last one first.
use Rattle.std.proofs.Common.{◌≡◌, ◌+◌, ◌≤◌, ℕ, suc, List, [], ◌∷◌, ◌++◌, length, sym, ap, subst, ◌∙◌, arith, refl}
use Rattle.std.specs.Prelude.{Some, None}
use Rattle.deque_rows.specs.declared.hart.HartRows.{HartRows}
use Rattle.deque_rows.specs.Rows.{IsLevel, identity}
use Rattle.deque_rows.specs.Calls.{Pushes}
use Rattle.std.proofs.lemmas.List.{length-append}
use Rattle.array_jobs.specs.Jobs.{JobParts}
use Rattle.step_eval.specs.declared.work.Work.{Work}
use Rattle.step_eval.specs.declared.work.Work.TheVariants.{Begin, Ready}
use Rattle.forkjoin_sched.specs.Pools.{PoolParts, IsPieceAt, GivesJob, with_agenda}
use Rattle.forkjoin_sched.specs.Hands.{RunsTo, IsFalling, PushesCodes, OffersJobs, code_at}
use Rattle.forkjoin_sched.proofs.RowSteps.{pushes_none, pushes_more, falls_on, falls_more}

-- The last job is taken.
pub runs_less : (n : ℕ) (rest : List Work) (last : Work) → RunsTo (suc n) (rest ++ last ∷ []) → RunsTo n rest
runs_less n [] last h = tt
runs_less n (Begin job ∷ rest) last h = (
  let e = h.0 in let l = length-append rest (last ∷ []) in let is : job.place + length rest + 1 ≡ n = omega (arith, e, l) in is,
  runs_less n rest last h.1,
)
runs_less n (Ready context ∷ rest) last h = absurd h

-- The last job has the last index.
pub run_ends : (n : ℕ) (work : Work) (works : List Work) → RunsTo (suc n) (work ∷ works)
    → (rest : List Work) × (last : Work) × ((work ∷ works) ≡ rest ++ last ∷ []) × IsPieceAt n last
run_ends n (Ready context) works h = absurd h
run_ends n (Begin job) [] h = ([], Begin job, refl, let e = h.0 in let is : job.place ≡ n = omega (arith, e) in is)
run_ends n (Begin job) (work ∷ works) h =
    let more = run_ends n work works h.1 in
    (Begin job ∷ more.0, more.1, ap (λ ws. Begin job ∷ ws) more.2, more.3)

-- If the last job doesn't have the last index, no job is left.
pub run_over : (n : ℕ) (works : List Work) → RunsTo (suc n) works
    → ((rest : List Work) (last : Work) → works ≡ rest ++ last ∷ [] → ¬ IsPieceAt n last) → RunsTo n works
run_over n [] h none = tt
run_over n (work ∷ works) h none = let end = run_ends n work works h in absurd (none end.0 end.1 end.2 end.3)

pub run_done : (works : List Work) → RunsTo 0 works → works ≡ []
run_done [] h = refl
run_done (Begin job ∷ works) h = absurd (let e = h.0 in omega (arith, e))
run_done (Ready context ∷ works) h = absurd h

-- Of n jobs, those from index k on are offered.
pub record HasOffered (site level n k : ℕ) (pool : PoolParts) (rows : HartRows) (places : List ℕ) (pool' : PoolParts) (rows' : HartRows) : Type 0 where
  pub below : k ≤ n
  pub falling : IsFalling n k places
  pub pushes : PushesCodes site level places rows rows'
  pub rest : pool' ≡ with_agenda pool (record pool.agenda { unbegun = pool'.agenda.unbegun })
  pub each : length pool.agenda.unbegun ≡ length pool'.agenda.unbegun + length places
  pub runs : RunsTo n pool.agenda.unbegun → RunsTo k pool'.agenda.unbegun

pub offered_none : (site level n : ℕ) (pool : PoolParts) (rows : HartRows) → HasOffered site level n n pool rows [] pool rows
offered_none site level n pool rows = record {
  below = omega arith;
  falling = (let e : n ≤ n = omega arith in e);
  pushes = pushes_none site level rows;
  rest = refl;
  each = omega arith;
  runs = λ r. r;
}

pub offered_skip : (site level n k : ℕ) (pool mid after : PoolParts) (rows now : HartRows) (places : List ℕ) → HasOffered site level n (suc k) pool rows places mid now
    → GivesJob mid k None after → HasOffered site level n k pool rows places after now
offered_skip site level n k pool mid after rows now places h gives = record {
  below = (let e = h.below in omega (arith, e));
  falling = falls_on n k places h.falling;
  pushes = h.pushes;
  rest = subst (λ p. p ≡ with_agenda pool (record pool.agenda { unbegun = p.agenda.unbegun })) (sym gives.1) h.rest;
  each = subst (λ p. length pool.agenda.unbegun ≡ length p.agenda.unbegun + length places) (sym gives.1) h.each;
  runs = λ r. subst (λ p. RunsTo k p.agenda.unbegun) (sym gives.1) (run_over k mid.agenda.unbegun (h.runs r) gives.0);
}

pub offered_more : (site level n k : ℕ) (pool mid after : PoolParts) (rows now then : HartRows) (places : List ℕ) (job : JobParts) → IsLevel level
    → HasOffered site level n (suc k) pool rows places mid now → GivesJob mid k (Some job) after
    → identity then ≡ identity now → Pushes now level (code_at site job.place) then → HasOffered site level n k pool rows (places ++ k ∷ []) after then
offered_more site level n k pool mid after rows now then places job is h gives same push = record {
  below = (let e = h.below in omega (arith, e));
  falling = falls_more n k places h.falling;
  pushes = pushes_more site level places k rows now then is h.pushes same (subst (λ p. Pushes now level (code_at site p) then) gives.1 push);
  rest = gives.2 ∙ ap (λ (p : PoolParts). with_agenda p (record p.agenda { unbegun = after.agenda.unbegun })) h.rest;
  each =
      let e = h.each in
      let a = ap length gives.0 in
      let b = length-append after.agenda.unbegun (Begin job ∷ []) in
      let c = length-append places (k ∷ []) in
      omega (arith, e, a, b, c);
  runs = λ r. runs_less k after.agenda.unbegun (Begin job) (subst (RunsTo (suc k)) gives.0 (h.runs r));
}

pub offered_all : (site level n : ℕ) (pool after : PoolParts) (rows now : HartRows) (places : List ℕ) → HasOffered site level n 0 pool rows places after now
    → OffersJobs site level n pool rows places after now
offered_all site level n pool after rows now places h = record {
  falling = h.falling;
  pushes = h.pushes;
  rest = h.rest;
  each = h.each;
  all = λ r. run_done after.agenda.unbegun (h.runs r);
}

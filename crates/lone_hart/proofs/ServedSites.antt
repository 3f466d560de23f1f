-- What the procedure requires of a site's account: at the end inner sites have ended, and the construct was run.
use Rattle.std.proofs.Common.{◌≡◌, ◌⊎◌, ◌++◌, ◌∷◌, [], ℕ, false, List, Result, Ok, Err, inl, inr}
use Rattle.std.specs.Prelude.{IfOk, IsErr}
use Rattle.transfer_table.specs.Plan.{Plan, IsPlan}
use Rattle.transfer_table.specs.declared.entry.Entry.{Entry}
use Rattle.transfer_table.specs.declared.entry.Entry.TheVariants.{Register, Unregister}
use Rattle.join_book.specs.Books.{IsFull, HasFailed}
use Rattle.step_eval.specs.Nests.{NestedParts, nested_of}
use Rattle.forkjoin_sched.specs.Pools as pools
use Rattle.loop_team.specs.Teams as teams
use Rattle.hart_work.specs.Accounts.{HaveEnded}
use Rattle.job_machines.proofs.Orders.{served_have_ended, served_are_run}
use Rattle.job_machines.specs.Accounts.{is_run}
use Rattle.lone_hart.specs.Served.{serves_pool, serves_team}
use Rattle.lone_hart.proofs.ServedPools.{pool_ends}
use Rattle.lone_hart.proofs.ServedTeams.{team_ends}

-- If no job failed and the site's work is done, each site inside has ended.
pub pool_ended : (nested : NestedParts) (pool : pools.PoolParts) (p : Plan) (around : ℕ) (start es : List Entry) → ¬ HasFailed pool.book → IsFull pool.book ⊎ HasFailed pool.book → IsPlan p →
    serves_pool nested pool p around start es → HaveEnded p around es
pool_ended nested pool p around start es well (inl full) plan (inr serves) = served_have_ended p around start es (nested_of nested) plan (pool_ends p around start es nested pool serves full)
pool_ended nested pool p around start es well (inr failed) plan (inr serves) = absurd (well failed)
pool_ended nested pool p around start es well over plan (inl failed) = absurd (well failed)

pub team_ended : (t : teams.TeamParts) (p : Plan) (around : ℕ) (start es : List Entry) → t.failed ≡ false → teams.IsOver t → IsPlan p → serves_team t p around start es → HaveEnded p around es
team_ended t p around start es well over plan serves = served_have_ended p around start es (nested_of t.nested) plan (team_ends p around start es t serves well over)

-- With the Unregister the construct was run.
abbrev Runs : NestedParts → Plan → List Entry → List Entry → ℕ → Type 0
Runs nested p before es hart = is_run p before (es ++ Unregister hart nested.site ∷ []) nested

pub pool_run : (nested : NestedParts) (pool : pools.PoolParts) (p : Plan) (before es : List Entry) (hart : ℕ) → ¬ HasFailed pool.book → IsFull pool.book ⊎ HasFailed pool.book → IsPlan p →
    serves_pool nested pool p nested.site (before ++ Register hart nested.site ∷ []) es → Runs nested p before es hart
pool_run nested pool p before es hart well (inl full) plan (inr serves) =
    served_are_run p before es hart (nested_of nested) plan (pool_ends p nested.site (before ++ Register hart nested.site ∷ []) es nested pool serves full)
pool_run nested pool p before es hart well (inr failed) plan (inr serves) = absurd (well failed)
pool_run nested pool p before es hart well over plan (inl failed) = absurd (well failed)

pub team_run : (t : teams.TeamParts) (p : Plan) (before es : List Entry) (hart : ℕ) → t.failed ≡ false → teams.IsOver t → IsPlan p →
    serves_team t p t.nested.site (before ++ Register hart t.nested.site ∷ []) es → Runs t.nested p before es hart
team_run t p before es hart well over plan serves =
    served_are_run p before es hart (nested_of t.nested) plan (team_ends p t.nested.site (before ++ Register hart t.nested.site ∷ []) es t serves well over)

-- An Ok result isn't a failure.
pub not_failed : {A E : Type 0} (r : Result A E) (Failed X : Type 0) → (Failed → IsErr r) → (¬ Failed → X) → IfOk r (λ _. X)
not_failed (Ok x) Failed X errs then = then (λ failed. let is = errs failed in cc)
not_failed (Err e) Failed X errs then = tt

-- Sites that have ended, number by number.
use Rattle.std.proofs.Common.{◌≡◌, ℕ, zero, suc, ◌+◌, ◌<◌, inl, inr, Bool, true, List, [], ◌∷◌, ◌++◌, length, refl, sym, subst, arith}
use Rattle.transfer_table.specs.Plan.{Plan}
use Rattle.transfer_table.specs.declared.entry.Entry.{Entry}
use Rattle.transfer_table.specs.Accounts.{IsOverAs, AreOverAs}
use Rattle.array_meaning.specs.Stores.{Arrays, arrays_of}
use Rattle.array_meaning.specs.Pieces.{IsMember}
use Rattle.array_meaning.specs.Plans.{statement_sites_in}
use Rattle.array_jobs.specs.Works.{sites_of}
use Rattle.array_jobs.specs.Jobs.{JobTree}
use Rattle.step_eval.specs.Nests.{NestedTree, phases_of, jobs_in}
use Rattle.step_eval.specs.Phases.{store_before}
use Rattle.job_machines.specs.Numbers.{numbers_from, sites_of_jobs, sites_of_phases}
use Rattle.job_machines.proofs.NumberLemmas.{jobs_have_all}
use Rattle.job_machines.specs.Entering.{work_entered, jobs_entered, phases_enter}
use Rattle.job_machines.proofs.Counts.{work_length}
use Rattle.job_machines.proofs.PassedJobs.{jobs_enter_the_construct}
use Rattle.job_machines.specs.Constructs.{IsOverJob, IsOverPhase, ConstructsAreOver}

-- The site of each number has ended as the value beside it has it.
abbrev OverEach : Plan → List Entry → List ℕ → List Bool → Type 0
OverEach p es [] [] = Unit {0}
OverEach p es [] (m ∷ ms) = ⊥
OverEach p es (n ∷ ns) [] = ⊥
OverEach p es (n ∷ ns) (m ∷ ms) = IsOverAs p es n m × OverEach p es ns ms

each_of : (p : Plan) (es : List Entry) (s k : ℕ) (ms : List Bool) → length ms ≡ k → AreOverAs p es s ms → OverEach p es (numbers_from s k) ms
each_of p es s zero [] e over = tt
each_of p es s zero (m ∷ ms) e over = absurd (omega (arith, e))
each_of p es s (suc k) [] e over = absurd (omega (arith, e))
each_of p es s (suc k) (m ∷ ms) e over = (over.0, each_of p es (s + 1) k ms (omega (arith, e)) over.1)

of_each : (p : Plan) (es : List Entry) (s k : ℕ) (ms : List Bool) → OverEach p es (numbers_from s k) ms → AreOverAs p es s ms
of_each p es s zero [] each = tt
of_each p es s zero (m ∷ ms) each = absurd each
of_each p es s (suc k) [] each = absurd each
of_each p es s (suc k) (m ∷ ms) each = (each.0, of_each p es (s + 1) k ms each.1)

each_append : (p : Plan) (es : List Entry) (ns ns' : List ℕ) (ms ms' : List Bool) → OverEach p es ns ms → OverEach p es ns' ms' → OverEach p es (ns ++ ns') (ms ++ ms')
each_append p es [] ns' [] ms' a b = b
each_append p es [] ns' (m ∷ ms) ms' a b = absurd a
each_append p es (n ∷ ns) ns' [] ms' a b = absurd a
each_append p es (n ∷ ns) ns' (m ∷ ms) ms' a b = (a.0, each_append p es ns ns' ms ms' a.1 b)

jobs_each : (p : Plan) (es : List Entry) (arrays : Arrays) (jobs : List JobTree) → ((job : JobTree) → IsMember job jobs → IsOverJob p es arrays job) → OverEach p es (sites_of_jobs jobs) (jobs_entered arrays jobs)
jobs_each p es arrays [] over = tt
jobs_each p es arrays (job ∷ more) over =
    each_append p es (numbers_from job.first (sites_of job.work)) (sites_of_jobs more) (work_entered arrays job.work job.vars job.store) (jobs_entered arrays more)
    (each_of p es job.first (sites_of job.work) (work_entered arrays job.work job.vars job.store) (work_length arrays job.work job.vars job.store) (over job (inl refl)))
    (jobs_each p es arrays more (λ other is. over other (inr is)))

phases_each : (p : Plan) (es : List Entry) (nested : NestedTree) (k c : ℕ) → ((i : ℕ) → i < k + c → IsOverPhase p es nested i) →
    OverEach p es (sites_of_phases nested (store_before nested) k c) (phases_enter nested k c)
phases_each p es nested k zero over = tt
phases_each p es nested k (suc c) over =
    each_append p es (sites_of_jobs (jobs_in nested k (store_before nested k))) (sites_of_phases nested (store_before nested) (k + 1) c)
    (jobs_entered (arrays_of nested.arrays) (jobs_in nested k (store_before nested k))) (phases_enter nested (k + 1) c)
    (jobs_each p es (arrays_of nested.arrays) (jobs_in nested k (store_before nested k)) (over k (omega arith)))
    (phases_each p es nested (k + 1) c (λ i lt. over i (omega (arith, lt))))

pub constructs_are_over : ConstructsAreOver
constructs_are_over p es nested have fit own over =
    let c = phases_of nested.construct in
    let inside = phases_each p es nested 0 c (λ i lt. over i (omega (arith, lt))) in
    let all : OverEach p es (nested.site ∷ sites_of_phases nested (store_before nested) 0 c) (true ∷ phases_enter nested 0 c) = (own, inside) in
    let numbers = jobs_have_all nested (store_before nested) fit.construct fit.limits in
    let each : OverEach p es (numbers_from nested.site (statement_sites_in nested.construct)) (true ∷ phases_enter nested 0 c)
    = subst (λ ns. OverEach p es ns (true ∷ phases_enter nested 0 c)) numbers all in
    subst (AreOverAs p es nested.site) (sym (jobs_enter_the_construct nested have fit))
    (of_each p es nested.site (statement_sites_in nested.construct) (true ∷ phases_enter nested 0 c) each)

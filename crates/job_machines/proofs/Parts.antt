-- Works, constructs and jobs have parts of the plan.
use Rattle.std.proofs.Common.{◌≡◌, ℕ, zero, suc, ◌+◌, ◌-◌, ◌<◌, ◌≤◌, ◌⊎◌, ⊎_elim, Bool, true, false, cond, List, [], ◌∷◌, length, Some, refl, subst, arith}
use Rattle.std.proofs.lemmas.Bool.{cases_order}
use Rattle.transfer_table.specs.Plan.{Plan, IsPlan, IsSite, parent}
use Rattle.transfer_table.specs.Accounts.{IsSpan}
use Rattle.array_tree.specs.Trees.{Statement, Assign, For, If, Par, Team, ended, followed}
use Rattle.array_meaning.specs.Values.{holds}
use Rattle.array_meaning.specs.Stores.{Arrays, Vars, Store, value_of}
use Rattle.array_meaning.specs.Work.{span}
use Rattle.array_meaning.specs.Plans.{StayInside, sequence_parents, sites_in, statement_sites_in}
use Rattle.array_meaning.specs.Pieces.{IsMember}
use Rattle.array_meaning.proofs.NestingLemmas.{stay_inside_parts}
use Rattle.array_meaning.proofs.PlanLemmas.{sequence_length}
use Rattle.entered_laws.specs.Meant.{HasPartFrom}
use Rattle.entered_laws.proofs.Parts.{parts_are_spans, programs_are_parts}
use Rattle.array_jobs.specs.Works.{WorkTree, branch_of, member_of, sites_of}
use Rattle.array_jobs.specs.Jobs.{JobTree}
use Rattle.step_eval.specs.Rest.{WorkAt, before}
use Rattle.step_eval.specs.Passes.{some_span, work_pass}
use Rattle.step_eval.specs.Nests.{NestedTree, piece_trees, earlier_sites, numbered}
use Rattle.job_machines.specs.Planned.{work_parents, inside_parents, JobsHave}
use Rattle.job_machines.proofs.ParentLemmas.{first_parent}
use Rattle.job_machines.proofs.WorkLemmas.{rest_stands, sides_stand, work_moves, construct_stands}
use Rattle.job_machines.proofs.JobLemmas.{jobs_stand}
use Rattle.job_machines.specs.Parts.{AreParts, WorksStayParts, WholeWorksArePassed, PassesAreSpans, IsConstructPart, ConstructsAreParts, JobsAreParts, BodiesAreParts}
use Rattle.job_machines.proofs.Cutting.{part_cuts, inside_cut}

-- ---- works

pub works_stay_parts : WorksStayParts
works_stay_parts p around next arrays store w more parts = work_moves (HasPartFrom p around) around (part_cuts p around) next arrays store w.work w.vars w.after more parts

pub whole_works_are_passed : WholeWorksArePassed
whole_works_are_passed p around next w more parts none =
    let same : next + sites_of w.work + w.after ≡ next = omega (arith, none) in
    subst (λ n. AreParts p around n more) same parts.1

-- ---- passes

reported_span : (p : Plan) (around first n : ℕ) (reported : ℕ × ℕ) → some_span first n ≡ Some reported → IsSpan p around first n → IsSpan p around reported.0 (reported.1 - reported.0)
reported_span p around first zero reported e is = absurd (cc)
reported_span p around first (suc n) reported e is =
    let same : (first, first + suc n) ≡ reported = cc in
    let count : suc n ≡ first + suc n - first = omega arith in
    subst (λ t. IsSpan p around t.0 (t.1 - t.0)) same (subst (λ k. IsSpan p around first k) count is)

work_spans : (p : Plan) (around next : ℕ) (arrays : Arrays) (store : Store) (w : WorkTree) (vars : Vars) (n : ℕ) (more : List WorkAt) (reported : ℕ × ℕ) →
    work_pass arrays store next w vars ≡ Some reported → AreParts p around next (before w vars n ∷ more) → IsSpan p around reported.0 (reported.1 - reported.0)
work_spans p around next arrays store (branch_of ended) vars n more reported e parts = absurd (cc)
work_spans p around next arrays store (branch_of (followed (Assign line array index value) rest)) vars n more reported e parts = absurd (cc)
work_spans p around next arrays store (branch_of (followed (For line var low high body) rest)) vars n more reported e parts = absurd (cc)
work_spans p around next arrays store (branch_of (followed (If line test left right) rest)) vars n more reported e parts =
    let Has = HasPartFrom p around in
    let cuts = part_cuts p around in
    let both = sides_stand Has around cuts next line test left right (rest_stands Has around cuts next (If line test left right) rest vars n more parts).0 in
    let first = subst (λ k. IsSpan p around next k) (sequence_length left around next) (parts_are_spans p around next (sequence_parents left around next) both.0) in
    let second = subst (λ k. IsSpan p around (next + sites_in left) k) (sequence_length right around (next + sites_in left))
    (parts_are_spans p around (next + sites_in left) (sequence_parents right around (next + sites_in left)) both.1) in
    side (holds (value_of arrays vars test store)) first second e
  where
    side : (b : Bool) → IsSpan p around next (sites_in left) → IsSpan p around (next + sites_in left) (sites_in right) →
        cond b (some_span (next + sites_in left) (sites_in right)) (some_span next (sites_in left)) ≡ Some reported → IsSpan p around reported.0 (reported.1 - reported.0)
    side true first second f = reported_span p around (next + sites_in left) (sites_in right) reported f second
    side false first second f = reported_span p around next (sites_in left) reported f first
work_spans p around next arrays store (branch_of (followed (Par line branches) rest)) vars n more reported e parts = absurd (cc)
work_spans p around next arrays store (branch_of (followed (Team line var low high members phases) rest)) vars n more reported e parts = absurd (cc)
work_spans p around next arrays store (member_of var low high body) vars n more reported e parts = absurd (cc)

pub passes_are_spans : PassesAreSpans
passes_are_spans p around next arrays store [] reported e parts = absurd (cc)
passes_are_spans p around next arrays store (w ∷ more) reported e parts = work_spans p around next arrays store w.work w.vars w.after more reported e parts

-- ---- constructs

inside_stays : (construct : Statement) → StayInside (inside_parents construct)
inside_stays (Assign line array index value) around next = tt
inside_stays (For line var low high body) around next = tt
inside_stays (If line test left right) around next = tt
inside_stays (Par line branches) around next = stay_inside_parts.branches branches around next
inside_stays (Team line var low high members phases) around next = stay_inside_parts.phases phases (span low high) around next

at_construct : (p : Plan) (around next : ℕ) (construct : Statement) → IsPlan p → HasPartFrom p around next (around ∷ inside_parents construct next (next + 1)) →
    suc (length (inside_parents construct next (next + 1))) ≡ statement_sites_in construct → IsConstructPart p around next construct
at_construct p around next construct plan has size =
    let inside = inside_parents construct next (next + 1) in
    let whole = parts_are_spans p around next (around ∷ inside) has in
    record {
      site = (whole.inside next (omega arith) (omega arith)).0;
      inside = inside_cut p around next inside (inside_stays construct next (next + 1)) has;
      children = children;
      parent = first_parent p.parents next around inside (record { before = has.before; after = has.after; place = has.place; is = has.is });
    }
  where
    children : (x : ℕ) → IsSite p x → parent p x ≡ next → (next < x) × (x < next + statement_sites_in construct)
    children x site e =
        let above : parent p x < x = plan.below x site.0 site.1 in
        let later = (parts_are_spans p around next (around ∷ inside_parents construct next (next + 1)) has).behind x site in
        let end = next + statement_sites_in construct in
        let below : x < end = ⊎_elim (λ same. absurd (beyond (later (omega (arith, same, size))))) (λ one. ⊎_elim (λ low. low) (λ high. absurd (beyond (later (omega (arith, high, size))))) one) (cases_order x end) in
        (omega (arith, above, e), below)
      where
        beyond : (parent p x < next) ⊎ (next + suc (length (inside_parents construct next (next + 1))) ≤ parent p x) → ⊥
        beyond far = ⊎_elim (λ low. omega (arith, low, e)) (λ high. omega (arith, high, e)) far

pub constructs_are_parts : ConstructsAreParts
constructs_are_parts p around next w more construct plan is parts =
    let there = construct_stands (HasPartFrom p around) around (part_cuts p around) next w.work w.vars w.after more construct is parts in
    at_construct p around next construct plan there.0 there.1

-- ---- jobs

job_part : (Has : ℕ → List ℕ → Type 0) (nested : NestedTree) (phase : ℕ) (store : Store) (place first : ℕ) (works : List WorkTree) (job : JobTree) →
    JobsHave Has (numbered nested phase store place first works) → IsMember job (numbered nested phase store place first works) →
    (job.site ≡ nested.site) × Has job.first (work_parents job.work nested.site job.first)
job_part Has nested phase store place first [] job have one = absurd one
job_part Has nested phase store place first (work ∷ more) job have one =
    ⊎_elim (λ same. subst (λ j. (j.site ≡ nested.site) × Has j.first (work_parents j.work nested.site j.first)) same (refl, have.0))
    (λ later. job_part Has nested phase store (place + 1) (first + sites_of work) more job have.1 later) one

pub jobs_are_parts : JobsAreParts
jobs_are_parts p nested phase store small has job one =
    let Has = HasPartFrom p nested.site in
    job_part Has nested phase store 0 (nested.site + 1 + earlier_sites nested.construct phase) (piece_trees nested.construct phase) job
    (jobs_stand Has nested (part_cuts p nested.site) phase store small has) one

pub bodies_are_parts : BodiesAreParts
bodies_are_parts program p is = (programs_are_parts program p is, tt)

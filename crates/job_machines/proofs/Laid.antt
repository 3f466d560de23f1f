-- The jobs of a construct have their sites in sequence, so no two have a common site.
use Rattle.std.proofs.Common.{◌≡◌, ℕ, zero, suc, ◌+◌, ◌-◌, ◌<◌, ◌≤◌, inl, inr, List, [], ◌∷◌, ◌++◌, refl, sym, ap, subst, ◌∙◌, arith, append_assoc}
use mathlib.Core.Logic.{dite}
use native.Mathlib.Decide.{ℕ_discrete}
use Rattle.array_meaning.specs.Pieces.{IsMember}
use Rattle.array_meaning.specs.Plans.{statement_sites_in}
use Rattle.array_jobs.specs.Works.{sites_of}
use Rattle.array_jobs.specs.Jobs.{JobTree}
use Rattle.step_eval.specs.Nests.{NestedTree, phases_of, jobs_in}
use Rattle.step_eval.specs.Phases.{store_before}
use Rattle.job_machines.specs.Numbers.{numbers_from, sites_of_jobs, sites_of_phases}
use Rattle.job_machines.proofs.NumberLemmas.{jobs_have_all}
use Rattle.job_machines.specs.Constructs.{JobsHaveOwnSites}

abbrev first_in : ℕ → List ℕ → ℕ
first_in d [] = d
first_in d (x ∷ xs) = x

abbrev rest_in : List ℕ → List ℕ
rest_in [] = []
rest_in (x ∷ xs) = xs

-- Numbers in front of others, which together are consecutive.
cut : (n j f N : ℕ) (R : List ℕ) → numbers_from j n ++ R ≡ numbers_from f N → (n ≤ N) × (0 < n → j ≡ f) × (R ≡ numbers_from (f + n) (N - n))
cut zero j f N R e = (omega arith, λ none. absurd (omega (arith, none)), e ∙ (let a : f ≡ f + 0 = omega arith in let b : N ≡ N - 0 = omega arith in ap (λ x. numbers_from x N) a ∙ ap (numbers_from (f + 0)) b))
cut (suc n) j f zero R e = absurd (cc)
cut (suc n) j f (suc N) R e =
    let head : j ≡ f = ap (first_in 0) e in
    let more = cut n (j + 1) (f + 1) N R (ap rest_in e) in
    let le = more.0 in
    let a : f + 1 + n ≡ f + suc n = omega arith in
    let b : N - n ≡ suc N - suc n = omega arith in
    (omega (arith, le), λ _. head, more.2 ∙ ap (λ x. numbers_from x (N - n)) a ∙ ap (numbers_from (f + suc n)) b)

-- Jobs with consecutive sites, job after job.
abbrev AreLaid : ℕ → ℕ → List JobTree → Type 0
AreLaid f N [] = Unit {0}
AreLaid f N (job ∷ more) = (sites_of job.work ≤ N) × (0 < sites_of job.work → job.first ≡ f) × AreLaid (f + sites_of job.work) (N - sites_of job.work) more

laid_of : (jobs : List JobTree) (f N : ℕ) → sites_of_jobs jobs ≡ numbers_from f N → AreLaid f N jobs
laid_of [] f N e = tt
laid_of (job ∷ more) f N e =
    let parts = cut (sites_of job.work) job.first f N (sites_of_jobs more) e in
    (parts.0, parts.1, laid_of more (f + sites_of job.work) (N - sites_of job.work) parts.2)

laid_bounds : (jobs : List JobTree) (f N : ℕ) (job : JobTree) → AreLaid f N jobs → IsMember job jobs → 0 < sites_of job.work → (f ≤ job.first) × (job.first + sites_of job.work ≤ f + N)
laid_bounds [] f N job laid is some = absurd is
laid_bounds (other ∷ more) f N job laid (inl same) some = subst (λ (j : JobTree). 0 < sites_of j.work → (f ≤ j.first) × (j.first + sites_of j.work ≤ f + N)) same
    (λ have. let start = laid.1 have in let le = laid.0 in (omega (arith, start), omega (arith, start, le))) some
laid_bounds (other ∷ more) f N job laid (inr is) some =
    let later = laid_bounds more (f + sites_of other.work) (N - sites_of other.work) job laid.2 is some in
    let low = later.0 in
    let high = later.1 in
    let le = laid.0 in (omega (arith, low), omega (arith, high, le))

-- The first of two jobs ends before the other begins.
head_apart : (jobs : List JobTree) (f N : ℕ) (head other : JobTree) (x : ℕ) → AreLaid f N (head ∷ jobs) → IsMember other jobs →
    head.first ≤ x → x < head.first + sites_of head.work → other.first ≤ x → x < other.first + sites_of other.work → ⊥
head_apart jobs f N head other x laid is a b c d =
    let start = laid.1 (omega (arith, a, b)) in
    let later = laid_bounds jobs (f + sites_of head.work) (N - sites_of head.work) other laid.2 is (omega (arith, c, d)) in
    let low = later.0 in omega (arith, start, low, b, c)

one_has : (jobs : List JobTree) (f N : ℕ) (job other : JobTree) (x : ℕ) → AreLaid f N jobs → IsMember job jobs → IsMember other jobs →
    job.first ≤ x → x < job.first + sites_of job.work → other.first ≤ x → x < other.first + sites_of other.work → other ≡ job
one_has [] f N job other x laid is also a b c d = absurd is
one_has (head ∷ jobs) f N job other x laid (inl same) (inl same') a b c d = sym same' ∙ same
one_has (head ∷ jobs) f N job other x laid (inl same) (inr also) a b c d =
    absurd (subst (λ (j : JobTree). j.first ≤ x → x < j.first + sites_of j.work → ⊥) same (λ l h. head_apart jobs f N head other x laid also l h c d) a b)
one_has (head ∷ jobs) f N job other x laid (inr is) (inl same') a b c d =
    absurd (subst (λ (j : JobTree). j.first ≤ x → x < j.first + sites_of j.work → ⊥) same' (λ l h. head_apart jobs f N head job x laid is l h a b) c d)
one_has (head ∷ jobs) f N job other x laid (inr is) (inr also) a b c d = one_has jobs (f + sites_of head.work) (N - sites_of head.work) job other x laid.2 is also a b c d

-- ---- all jobs of a construct

abbrev all_jobs : NestedTree → ℕ → ℕ → List JobTree
all_jobs nested k zero = []
all_jobs nested k (suc c) = jobs_in nested k (store_before nested k) ++ all_jobs nested (k + 1) c

sites_append : (xs ys : List JobTree) → sites_of_jobs (xs ++ ys) ≡ sites_of_jobs xs ++ sites_of_jobs ys
sites_append [] ys = refl
sites_append (job ∷ xs) ys =
    ap (λ z. numbers_from job.first (sites_of job.work) ++ z) (sites_append xs ys)
    ∙ sym (append_assoc (numbers_from job.first (sites_of job.work)) (sites_of_jobs xs) (sites_of_jobs ys))

sites_all : (nested : NestedTree) (k c : ℕ) → sites_of_jobs (all_jobs nested k c) ≡ sites_of_phases nested (store_before nested) k c
sites_all nested k zero = refl
sites_all nested k (suc c) =
    sites_append (jobs_in nested k (store_before nested k)) (all_jobs nested (k + 1) c)
    ∙ ap (λ z. sites_of_jobs (jobs_in nested k (store_before nested k)) ++ z) (sites_all nested (k + 1) c)

member_left : (job : JobTree) (xs ys : List JobTree) → IsMember job xs → IsMember job (xs ++ ys)
member_left job [] ys is = absurd is
member_left job (x ∷ xs) ys (inl same) = inl same
member_left job (x ∷ xs) ys (inr is) = inr (member_left job xs ys is)

member_right : (job : JobTree) (xs ys : List JobTree) → IsMember job ys → IsMember job (xs ++ ys)
member_right job [] ys is = is
member_right job (x ∷ xs) ys is = inr (member_right job xs ys is)

member_all : (nested : NestedTree) (job : JobTree) (i k c : ℕ) → k ≤ i → i < k + c → IsMember job (jobs_in nested i (store_before nested i)) → IsMember job (all_jobs nested k c)
member_all nested job i k zero low high is = absurd (omega (arith, low, high))
member_all nested job i k (suc c) low high is = dite (ℕ_discrete i k)
    (λ same. member_left job (jobs_in nested k (store_before nested k)) (all_jobs nested (k + 1) c) (subst (λ n. IsMember job (jobs_in nested n (store_before nested n))) same is))
    (λ other. member_right job (jobs_in nested k (store_before nested k)) (all_jobs nested (k + 1) c) (member_all nested job i (k + 1) c (grind (arith, other, low)) (omega (arith, high)) is))

pub jobs_have_own_sites : JobsHaveOwnSites
jobs_have_own_sites nested fit job is =
    let c = phases_of nested.construct in
    let n = statement_sites_in nested.construct in
    let jobs = all_jobs nested 0 c in
    let numbers = jobs_have_all nested (store_before nested) fit.construct fit.limits in
    let after = cut 1 nested.site nested.site n (sites_of_phases nested (store_before nested) 0 c) numbers in
    let laid = laid_of jobs (nested.site + 1) (n - 1) (sites_all nested 0 c ∙ after.2) in
    let here = member_all nested job is.phase 0 c (omega arith) (let small = is.small in omega (arith, small)) is.one in
    record {
      inside = laid_bounds jobs (nested.site + 1) (n - 1) job laid here;
      alone = λ other x also a b c' d. one_has jobs (nested.site + 1) (n - 1) job other x laid here
          (member_all nested other also.phase 0 c (omega arith) (let small = also.small in omega (arith, small)) also.one) a b c' d;
    }

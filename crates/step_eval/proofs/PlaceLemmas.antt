-- The job at an index among the jobs of works.
use Rattle.std.proofs.Common.{◌≡◌, ℕ, zero, suc, ◌+◌, ◌<◌, ◌≤◌, List, [], ◌∷◌, map, length, take, get_or, sym, ap, ◌∙◌, subst, arith}
use Rattle.std.specs.Prelude.{slice_get, Some}
use Rattle.array_meaning.specs.Stores.{Store}
use Rattle.array_jobs.specs.declared.work.Work.{Work}
use Rattle.array_jobs.specs.Works.{work_of, sites_of}
use Rattle.array_jobs.specs.Jobs.{JobTree}
use Rattle.step_eval.specs.Nests.{NestedTree, sites_of_all, numbered, AreFitJobs}

-- The job at an index is that of its work, with its sites after those of the works before.
pub job_of_place : (nested : NestedTree) (phase : ℕ) (store : Store) (place first : ℕ) (works : List Work) (i : ℕ) (d : Work) → i < length works →
    slice_get (numbered nested phase store place first (map work_of works)) i
    ≡ slice_get (numbered nested phase store (place + i) (first + sites_of_all (map work_of (take i works))) (work_of (get_or works i d) ∷ [])) 0
job_of_place nested phase store place first [] i d h = absurd (omega arith)
job_of_place nested phase store place first (work ∷ works) zero d h =
    let here : place ≡ place + 0 = omega arith in
    let none : first ≡ first + 0 = omega arith in
    ap (λ p. slice_get (numbered nested phase store p first (work_of work ∷ [])) 0) here
    ∙ ap (λ f. slice_get (numbered nested phase store (place + 0) f (work_of work ∷ [])) 0) none
job_of_place nested phase store place first (work ∷ works) (suc i) d h =
    let own = sites_of (work_of work) in
    let before = sites_of_all (map work_of (take i works)) in
    let next : place + 1 + i ≡ place + suc i = omega arith in
    let sites : first + own + before ≡ first + (own + before) = omega arith in
    job_of_place nested phase store (place + 1) (first + own) works i d (omega arith)
    ∙ ap (λ p. slice_get (numbered nested phase store p (first + own + before) (work_of (get_or works i d) ∷ [])) 0) next
    ∙ ap (λ f. slice_get (numbered nested phase store (place + suc i) f (work_of (get_or works i d) ∷ [])) 0) sites

-- The job at an index is fit if all are.
pub fit_at_place : (nested : NestedTree) (phase : ℕ) (store : Store) (place first : ℕ) (works : List Work) (i : ℕ) (d : Work) → i < length works →
    AreFitJobs (numbered nested phase store place first (map work_of works)) →
    AreFitJobs (numbered nested phase store (place + i) (first + sites_of_all (map work_of (take i works))) (work_of (get_or works i d) ∷ []))
fit_at_place nested phase store place first [] i d h fit = absurd (omega arith)
fit_at_place nested phase store place first (work ∷ works) zero d h fit =
    let here : place ≡ place + 0 = omega arith in
    let none : first ≡ first + 0 = omega arith in
    subst (λ p. AreFitJobs (numbered nested phase store p (first + 0) (work_of work ∷ []))) here
    (subst (λ f. AreFitJobs (numbered nested phase store place f (work_of work ∷ []))) none (fit.0, tt))
fit_at_place nested phase store place first (work ∷ works) (suc i) d h fit =
    let own = sites_of (work_of work) in
    let before = sites_of_all (map work_of (take i works)) in
    let next : place + 1 + i ≡ place + suc i = omega arith in
    let sites : first + own + before ≡ first + (own + before) = omega arith in
    subst (λ p. AreFitJobs (numbered nested phase store p (first + (own + before)) (work_of (get_or works i d) ∷ []))) next
    (subst (λ f. AreFitJobs (numbered nested phase store (place + 1 + i) f (work_of (get_or works i d) ∷ []))) sites
    (fit_at_place nested phase store (place + 1) (first + own) works i d (omega arith) fit.1))

-- The job's first site has room.
pub place_has_room : (nested : NestedTree) (phase : ℕ) (store : Store) (place first : ℕ) (works : List Work) (i : ℕ) → i < length works →
    AreFitJobs (numbered nested phase store place first (map work_of works)) → first + sites_of_all (map work_of (take i works)) ≤ 4096
place_has_room nested phase store place first [] i h fit = absurd (omega arith)
place_has_room nested phase store place first (work ∷ works) zero h fit = let sites = fit.0.sites in omega (arith, sites)
place_has_room nested phase store place first (work ∷ works) (suc i) h fit =
    let rest = place_has_room nested phase store (place + 1) (first + sites_of (work_of work)) works i (omega arith) fit.1 in
    omega (arith, rest)

-- The same for a work that is read.
pub fit_is_reported : (nested : NestedTree) (phase : ℕ) (store : Store) (next : ℕ) (works : List Work) (place i first : ℕ) (own : Work) → i ≡ place → i < length works →
    first ≡ next + sites_of_all (map work_of (take i works)) → own ≡ get_or works i own →
    AreFitJobs (numbered nested phase store 0 next (map work_of works)) → AreFitJobs (numbered nested phase store place first (work_of own ∷ []))
fit_is_reported nested phase store next works place i first own e h sites read fit =
    let here : 0 + i ≡ place = omega (arith, e) in
    subst (λ (w : Work). AreFitJobs (numbered nested phase store place first (work_of w ∷ []))) (sym read)
    (subst (λ f. AreFitJobs (numbered nested phase store place f (work_of (get_or works i own) ∷ []))) (sym sites)
    (subst (λ p. AreFitJobs (numbered nested phase store p (next + sites_of_all (map work_of (take i works))) (work_of (get_or works i own) ∷ []))) here
    (fit_at_place nested phase store 0 next works i own h fit)))

pub job_is_reported : (nested : NestedTree) (phase : ℕ) (store : Store) (next : ℕ) (works : List Work) (place i first : ℕ) (own : Work) (job : JobTree) → i ≡ place → i < length works →
    first ≡ next + sites_of_all (map work_of (take i works)) → own ≡ get_or works i own →
    job ∷ [] ≡ numbered nested phase store place first (work_of own ∷ []) →
    slice_get (numbered nested phase store 0 next (map work_of works)) place ≡ Some job
job_is_reported nested phase store next works place i first own job e h sites read is =
    let before = next + sites_of_all (map work_of (take i works)) in
    let here : 0 + i ≡ place = omega (arith, e) in
    ap (slice_get (numbered nested phase store 0 next (map work_of works))) (sym e)
    ∙ job_of_place nested phase store 0 next works i own h
    ∙ ap (λ p. slice_get (numbered nested phase store p before (work_of (get_or works i own) ∷ [])) 0) here
    ∙ ap (λ f. slice_get (numbered nested phase store place f (work_of (get_or works i own) ∷ [])) 0) (sym sites)
    ∙ ap (λ (w : Work). slice_get (numbered nested phase store place first (work_of w ∷ [])) 0) (sym read)
    ∙ ap (λ (l : List JobTree). slice_get l 0) (sym is)

-- `==` of works and of jobs is equality.
use Rattle.std.proofs.Common.{◌≡◌, ℕ, ℤ, List, true, refl, ap}
use Rattle.std.specs.Bool.{Decides}
use Rattle.std.specs.Prelude.{◌&&◌}
use Rattle.std.specs.Ordering.{int_eq}
use Rattle.std.proofs.lemmas.Bool.Decides.{Decides-and, Decides-eqb, Decides-int_eq}
use Rattle.array_tree.specs.Trees.{Sequence, Declaration}
use Rattle.array_tree.specs.Equal.{name_eq, sequence_eq, declarations_eq}
use Rattle.array_tree.specs.EqualLaws.{sequence_decided, declarations_decided}
use Rattle.array_meaning.specs.Stores.{Store, Vars}
use Rattle.array_eval.specs.EqualLaws.{name_decides, store_decides, vars_decides}
use Rattle.array_jobs.specs.Works.{WorkTree, branch_of, member_of}
use Rattle.array_jobs.specs.Jobs.{JobTree}
use Rattle.array_jobs.specs.Equal.{work_eq, job_eq}

body_decides : (p q : Sequence) → Decides (sequence_eq p q) (p ≡ q)
body_decides p q = sequence_decided p q (sequence_eq p q) refl

member_decides : (v : List ℕ) (m n : ℤ) (p : Sequence) (w : List ℕ) (k l : ℤ) (q : Sequence) →
    Decides (name_eq v w && (int_eq m k && (int_eq n l && sequence_eq p q))) ((v ≡ w) × ((m ≡ k) × ((n ≡ l) × (p ≡ q))))
member_decides v m n p w k l q =
    Decides-and _ _ (name_decides v w) (Decides-and _ _ (Decides-int_eq m k) (Decides-and _ _ (Decides-int_eq n l) (body_decides p q)))

-- Works that pass the test are equal.
pub work_same : (a b : WorkTree) → work_eq a b ≡ true → a ≡ b
work_same (branch_of p) (branch_of q) h = ap branch_of ((body_decides p q).0 h)
work_same (member_of v m n p) (member_of w k l q) h =
    let e = (member_decides v m n p w k l q).0 h in
    let name = e.0 in let low = e.1.0 in let high = e.1.1.0 in let body = e.1.1.1 in cc
work_same a b h = cc

-- Each work passes the test with itself.
pub work_refl : (a : WorkTree) → work_eq a a ≡ true
work_refl (branch_of p) = (body_decides p p).1 refl
work_refl (member_of v m n p) = (member_decides v m n p v m n p).1 (refl, (refl, (refl, refl)))

-- The test decides whether two works are equal.
pub work_decides : (a b : WorkTree) → Decides (work_eq a b) (a ≡ b)
work_decides a b = (λ h. work_same a b h, λ e. rw e (work_refl b))

arrays_decide : (ds es : List Declaration) → Decides (declarations_eq ds es) (ds ≡ es)
arrays_decide ds es = declarations_decided ds es (declarations_eq ds es) refl

-- The job with these parts.
abbrev made : ℕ → ℕ → ℕ → ℕ → WorkTree → Vars → Store → List Declaration → JobTree
made site phase place first work vars store arrays = record {
  arrays = arrays;
  site = site;
  phase = phase;
  place = place;
  first = first;
  work = work;
  vars = vars;
  store = store;
}

parts_decide : (a b : JobTree) → Decides (job_eq a b)
    ((a.site ≡ b.site) × ((a.phase ≡ b.phase) × ((a.place ≡ b.place) × ((a.first ≡ b.first)
    × ((a.work ≡ b.work) × ((a.vars ≡ b.vars) × ((a.store ≡ b.store) × (a.arrays ≡ b.arrays))))))))
parts_decide a b =
    Decides-and _ _ (Decides-eqb a.site b.site) (Decides-and _ _ (Decides-eqb a.phase b.phase) (Decides-and _ _ (Decides-eqb a.place b.place)
    (Decides-and _ _ (Decides-eqb a.first b.first) (Decides-and _ _ (work_decides a.work b.work) (Decides-and _ _ (vars_decides a.vars b.vars)
    (Decides-and _ _ (store_decides a.store b.store) (arrays_decide a.arrays b.arrays)))))))

-- Jobs that pass the test are equal.
pub job_same : (a b : JobTree) → job_eq a b ≡ true → a ≡ b
job_same a b h =
    let e = (parts_decide a b).0 h in
    let same : made a.site a.phase a.place a.first a.work a.vars a.store a.arrays ≡ made b.site b.phase b.place b.first b.work b.vars b.store b.arrays
    = rw (e.0, e.1.0, e.1.1.0, e.1.1.1.0, e.1.1.1.1.0, e.1.1.1.1.1.0, e.1.1.1.1.1.1.0, e.1.1.1.1.1.1.1) refl in
    same

-- Each job passes the test with itself.
pub job_refl : (a : JobTree) → job_eq a a ≡ true
job_refl a = (parts_decide a a).1 (refl, (refl, (refl, (refl, (refl, (refl, (refl, refl)))))))

-- The test decides whether two jobs are equal.
pub job_decides : (a b : JobTree) → Decides (job_eq a b) (a ≡ b)
job_decides a b = (λ h. job_same a b h, λ e. rw e (job_refl b))

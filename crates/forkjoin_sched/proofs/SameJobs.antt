-- Lists of jobs that are equal, each to that at its index.
use Rattle.std.proofs.Common.{◌≡◌, ◌<◌, ℕ, List, [], ◌∷◌, length, map, get_or, Some, slice_get, true, false, Bool, ◌&&◌, IsTrue, ◌↔◌, refl, sym, ap, subst, ◌∙◌}
use Rattle.std.specs.Option.{option_map}
use Rattle.std.specs.Cmp.Lexicographic.{pointwise}
use Rattle.std.proofs.lemmas.Bool.{and_parts, false≢true}
use Rattle.std.proofs.lemmas.Option.{same_Some, slice_get-map, slice_get_read}
use Rattle.array_jobs.specs.Jobs.{JobParts, JobTree, job_of}
use Rattle.std.specs.Prelude.{nat_eq}
use Rattle.array_tree.specs.Equal.{declarations_eq}
use Rattle.array_eval.specs.Equal.{store_eq, vars_eq}
use Rattle.array_eval.specs.EqualLaws.{store_decides}
use Rattle.array_jobs.specs.Equal.{work_eq, job_eq}
use Rattle.array_jobs.specs.EqualLaws.{job_same, job_refl, job_decides}
use Rattle.forkjoin_sched.specs.Rests.{rest_eq}

told_at : (xs : List JobParts) (i : ℕ) (x : JobParts) → i < length xs → x ≡ get_or xs i x → slice_get (map job_of xs) i ≡ Some (job_of x)
told_at xs i x below is = slice_get-map job_of xs i ∙ ap (option_map job_of) (slice_get_read xs (length xs) i x refl below is)

pub same_at : (xs ys : List JobParts) (i : ℕ) (x y : JobParts) → i < length xs → i < length ys → x ≡ get_or xs i x → y ≡ get_or ys i y
    → map job_of xs ≡ map job_of ys → job_of x ≡ job_of y
same_at xs ys i x y below within is at same =
    same_Some (job_of x) (job_of y) (sym (told_at xs i x below is) ∙ ap (λ (l : List JobTree). slice_get l i) same ∙ told_at ys i y within at)

-- Jobs that start from one store are equal if the rest of them is.
pub rest_same : (a b : JobTree) → a.store ≡ b.store → (r : Bool) → r ≡ rest_eq a b → IsTrue r ↔ (a ≡ b)
rest_same a b start r tested =
    let store : store_eq a.store b.store ≡ true = (store_decides a.store b.store).1 start in
    let whole : job_eq a b ≡ rest_eq a b
    = ap (λ (s : Bool). nat_eq a.site b.site && (nat_eq a.phase b.phase && (nat_eq a.place b.place && (nat_eq a.first b.first
    && (work_eq a.work b.work && (vars_eq a.vars b.vars && (s && declarations_eq a.arrays b.arrays))))))) store in (
      λ t. job_same a b (whole ∙ sym tested ∙ t),
      λ same. tested ∙ sym whole ∙ (job_decides a b).1 same,
    )

-- A job that differs from the one at its index.
pub differ_at : (r : Bool) (xs ys : List JobParts) (i : ℕ) (x y : JobParts) → i < length xs → i < length ys → x ≡ get_or xs i x → y ≡ get_or ys i y
    → IsTrue r ↔ (job_of x ≡ job_of y) → r ≡ false → IsTrue false ↔ (map job_of xs ≡ map job_of ys)
differ_at r xs ys i x y below within is at tested different = (
  λ t. absurd (false≢true t),
  λ same. absurd (false≢true (sym different ∙ tested.1 (same_at xs ys i x y below within is at same))),
)

-- ---- what is equal place by place is equal

pub same_jobs : (xs ys : List JobParts) → pointwise (λ x y. job_eq (job_of x) (job_of y)) xs ys ≡ true → map job_of xs ≡ map job_of ys
same_jobs [] [] h = refl
same_jobs [] (y ∷ ys) h = cc
same_jobs (x ∷ xs) [] h = cc
same_jobs (x ∷ xs) (y ∷ ys) h =
    let p = and_parts _ _ h in
    let first : job_of x ≡ job_of y = job_same (job_of x) (job_of y) p.0 in
    let rest : map job_of xs ≡ map job_of ys = same_jobs xs ys p.1 in cc

pub equal_jobs : (xs ys : List JobParts) → map job_of xs ≡ map job_of ys → pointwise (λ x y. job_eq (job_of x) (job_of y)) xs ys ≡ true
equal_jobs [] [] h = refl
equal_jobs [] (y ∷ ys) h = cc
equal_jobs (x ∷ xs) [] h = cc
equal_jobs (x ∷ xs) (y ∷ ys) h =
    let first : job_of x ≡ job_of y = cc in
    let rest : map job_of xs ≡ map job_of ys = cc in
    let one : job_eq (job_of x) (job_of y) ≡ true = subst (λ (j : JobTree). job_eq (job_of x) j ≡ true) first (job_refl (job_of x)) in
    ap (λ (b : Bool). b && pointwise (λ x y. job_eq (job_of x) (job_of y)) xs ys) one ∙ equal_jobs xs ys rest

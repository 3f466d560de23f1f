-- The members' works in sequence are the loop.
use Rattle.std.proofs.Common.{◌≡◌, ℕ, zero, suc, ◌+◌, ◌-◌, ◌*◌, ◌/◌, ◌<◌, ◌≤◌, List, ◌∷◌, ℤ, pos, ◌+ℤ◌, refl, sym, ap, ◌∙◌, arith}
use Rattle.std.proofs.lemmas.Int.{ints}
use Rattle.std.proofs.Math.Nat.{mul-div_cancel, div-mul-le_self, div-zero, zero-div, mul-le-mul_left}
use Rattle.std.proofs.lemmas.Nat.{le-div}
use Rattle.array_meaning.specs.Stores.{Vars}
use Rattle.array_meaning.specs.Steps.{Steps, followed_by, join}
use Rattle.array_meaning.specs.Work.{Work, turns, span, loop}
use Rattle.array_meaning.specs.Members.{first_of, member_work, member_works}
use Rattle.array_meaning.proofs.StepLemmas.{followed_by_assoc}

-- A loop may be cut at any turn.
pub turns_add : (body : ℤ → Steps) (low : ℤ) (a b : ℕ) → turns body low (a + b) ≡ followed_by (turns body low a) (turns body (low +ℤ pos a) b)
turns_add body low zero b =
    let none : zero + b ≡ b = omega arith in
    let same : low +ℤ pos 0 ≡ low = omega (arith, ints) in
    rw (none, same) refl
turns_add body low (suc a) b =
    let more : suc a + b ≡ suc (a + b) = omega arith in
    let same : low +ℤ pos 1 +ℤ pos a ≡ low +ℤ pos (suc a) = omega (arith, ints) in
    rw more (ap (followed_by (body low)) (turns_add body (low +ℤ pos 1) a b ∙ ap (λ x. followed_by (turns body (low +ℤ pos 1) a) (turns body x b)) same)
    ∙ sym (followed_by_assoc (body low) (turns body (low +ℤ pos 1) a) (turns body (low +ℤ pos (suc a)) b)))

-- The number of iterations between two bounds.
pub span_cut : (low : ℤ) (a b : ℕ) → a ≤ b → span (low +ℤ pos a) (low +ℤ pos b) ≡ b - a
span_cut low a b h = grind (arith, ints)

div_mono : (a b m : ℕ) → a ≤ b → a / m ≤ b / m
div_mono a b zero h = rw (div-zero a, div-zero b) (let le : 0 ≤ 0 = omega arith in le)
div_mono a b (suc m) h = le-div (a / suc m) b (suc m) (omega arith) (let small = div-mul-le_self a (suc m) in omega arith)

-- A later member begins no earlier.
pub first_of_far : (n m j k : ℕ) → first_of n m j ≤ first_of n m (j + k)
first_of_far n m j k = div_mono (n * j) (n * (j + k)) m (mul-le-mul_left n (let le : j ≤ j + k = omega arith in le))

join_members : (name : List ℕ) (low high : ℤ) (m : ℕ) (body : Work) (j k : ℕ) (vars : Vars) →
    join (member_works name low high m body j k vars)
    ≡ turns (λ x. body ((name, x) ∷ vars)) (low +ℤ pos (first_of (span low high) m j)) (first_of (span low high) m (j + k) - first_of (span low high) m j)
join_members name low high m body j zero vars =
    let same : first_of (span low high) m (j + 0) - first_of (span low high) m j ≡ 0
    = (let e : j + 0 ≡ j = omega arith in rw e (let z : first_of (span low high) m j - first_of (span low high) m j ≡ 0 = omega arith in z)) in
    rw same refl
join_members name low high m body j (suc k) vars =
    let n = span low high in
    let one = λ (x : ℤ). body ((name, x) ∷ vars) in
    let a = first_of n m j in
    let b = first_of n m (j + 1) in
    let c = first_of n m (j + suc k) in
    let ab : a ≤ b = first_of_far n m j 1 in
    let next : j + 1 + k ≡ j + suc k = omega arith in
    let bc : b ≤ c = rw next at (first_of_far n m (j + 1) k) in
    let rest : join (member_works name low high m body (j + 1) k vars) ≡ turns one (low +ℤ pos b) (c - b)
    = join_members name low high m body (j + 1) k vars ∙ ap (λ q. turns one (low +ℤ pos b) (first_of n m q - b)) next in
    let here : member_work name low high m body j vars ≡ turns one (low +ℤ pos a) (b - a)
    = ap (turns one (low +ℤ pos a)) (span_cut low a b ab) in
    let sum : (b - a) + (c - b) ≡ c - a = omega arith in
    let place : low +ℤ pos a +ℤ pos (b - a) ≡ low +ℤ pos b = omega (arith, ints) in
    ap (λ w. followed_by w (join (member_works name low high m body (j + 1) k vars))) here
    ∙ ap (followed_by (turns one (low +ℤ pos a) (b - a))) (rest ∙ ap (λ y. turns one y (c - b)) (sym place))
    ∙ sym (turns_add one (low +ℤ pos a) (b - a) (c - b))
    ∙ ap (turns one (low +ℤ pos a)) sum

-- All members together are the loop.
pub members_loop : (name : List ℕ) (low high : ℤ) (m : ℕ) (body : Work) (vars : Vars) → 0 < m →
    join (member_works name low high m body 0 m vars) ≡ loop name low high body vars
members_loop name low high m body vars h =
    let n = span low high in
    let start : first_of n m 0 ≡ 0 = (let z : n * 0 ≡ 0 = omega arith in rw z (zero-div m)) in
    let end : first_of n m (0 + m) ≡ n = (let e : 0 + m ≡ m = omega arith in rw e (mul-div_cancel n h)) in
    let at : low +ℤ pos 0 ≡ low = omega (arith, ints) in
    let whole : n - 0 ≡ n = omega arith in
    join_members name low high m body 0 m vars ∙ rw (start, end, at, whole) refl

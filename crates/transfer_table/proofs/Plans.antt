-- A plan is valid iff it has no fault.
use Rattle.std.proofs.Common.{◌≡◌, ℕ, zero, suc, ◌+◌, ◌-◌, ◌*◌, ◌<◌, ◌≤◌, Bool, true, false, ◌||◌, ◌==◌, nat_le, nat_lt, if◌then◌else◌, List, [], ◌∷◌, length, refl, ap, arith, slice_index, Option, Some, None}
use Rattle.std.proofs.lemmas.Bool.Decides.{nat_tests}
use Rattle.transfer_table.specs.Plan.{Plan, IsPlan, parent, bad_parent, has_too_many_sites, plan_fault_of}
use Rattle.transfer_table.specs.Causes.{cause_if}
use Rattle.transfer_table.specs.declared.plan.PlanFault.{PlanFault}
use Rattle.transfer_table.specs.declared.plan.PlanFault.TheVariants as fault
use Rattle.std.specs.Option.{option_map}
use Rattle.transfer_table.proofs.Causes.{unmet, unfound}

head_below : (q k : ℕ) (qs : List ℕ) → bad_parent (q ∷ qs) k ≡ None → (nat_le k q ≡ false) × (bad_parent qs (k + 1) ≡ None)
head_below q k qs e = split (nat_le k q) refl e
  where
    split : (b : Bool) → nat_le k q ≡ b → (if b then Some k else bad_parent qs (k + 1)) ≡ None → (nat_le k q ≡ false) × (bad_parent qs (k + 1) ≡ None)
    split true is f = absurd (cc)
    split false is f = (is, f)

-- If the scan finds nothing, each parent is smaller than its site.
pub all_below : (qs : List ℕ) (k i : ℕ) → bad_parent qs k ≡ None → i < length qs → slice_index qs i < k + i
all_below [] k i e lt = absurd (omega arith)
all_below (q ∷ qs) k zero e lt = let a = (head_below q k qs e).0 in grind (arith, nat_tests)
all_below (q ∷ qs) k (suc i) e lt = let r = all_below qs (k + 1) i (head_below q k qs e).1 (omega arith) in omega arith

none_bad : (qs : List ℕ) (k : ℕ) → ((i : ℕ) → i < length qs → slice_index qs i < k + i) → bad_parent qs k ≡ None
none_bad [] k f = refl
none_bad (q ∷ qs) k f = let a : q < k + 0 = f 0 (omega arith) in let b : nat_le k q ≡ false = grind (arith, nat_tests) in rw b (none_bad qs (k + 1) (λ i lt. let r = f (suc i) (omega arith) in omega arith))

-- A plan without a fault is valid.
pub is_plan : (n : ℕ) (qs : List ℕ) → plan_fault_of n qs ≡ None → IsPlan record { harts = n; parents = qs }
is_plan n qs e = let many = has_too_many_sites record { harts = n; parents = qs } in let sites : Option PlanFault = cause_if many (fault.TooManySites (length qs)) in let parents : Option PlanFault = option_map fault.BadParent (bad_parent qs 1) in
    let a = unmet ((n == 0) || nat_lt 16 n) (fault.BadHarts n) (sites ∷ parents ∷ []) e in let b = unmet many (fault.TooManySites (length qs)) (parents ∷ []) a.1 in
    let d = unfound (bad_parent qs 1) fault.BadParent [] b.1 in let h = a.0 in let s : (nat_lt 4095 (length qs) || nat_lt 65535 (length qs * (3 * n - 1))) ≡ false = b.0 in record {
      some_hart = grind (arith, nat_tests);
      few_harts = grind (arith, nat_tests);
      few_sites = grind (arith, nat_tests);
      short = grind (arith, nat_tests);
      below = λ x low high. let r = all_below qs 1 (x - 1) d.0 (omega arith) in omega arith;
    }

-- A valid plan has no fault.
pub plan_fault_of-plan : (p : Plan) → IsPlan p → plan_fault_of p.harts p.parents ≡ None
plan_fault_of-plan p is = let f = is.few_harts in let g = is.some_hart in let s = is.few_sites in let r = is.short in
    let a : ((p.harts == 0) || nat_lt 16 p.harts) ≡ false = grind (arith, nat_tests) in
    let b : (nat_lt 4095 (length p.parents) || nat_lt 65535 (length p.parents * (3 * p.harts - 1))) ≡ false = grind (arith, nat_tests) in
    let d : bad_parent p.parents 1 ≡ None = none_bad p.parents 1 (λ i lt. let r : slice_index p.parents (i + 1 - 1) < i + 1 = is.below (i + 1) (omega arith) (omega arith) in let e : i + 1 - 1 ≡ i = omega arith in let r' = ap (slice_index p.parents) e in omega arith) in rw (a, b, d) refl

-- The base, which is no site, is its own parent.
pub parent-outside : (p : Plan) → IsPlan p → parent p 0 ≡ 0
parent-outside p is = none p.parents (is.below 1 (omega arith))
  where
    none : (qs : List ℕ) → (1 ≤ length qs → slice_index qs 0 < 1) → slice_index qs 0 ≡ 0
    none [] f = refl
    none (q ∷ qs) f = let r = f (omega arith) in omega arith

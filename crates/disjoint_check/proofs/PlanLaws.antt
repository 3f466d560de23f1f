-- The plan of an accepted program is a plan.
use Rattle.std.proofs.Common.{◌≡◌, ◌≤◌, ◌||◌, ◌==◌, ℕ, false, List, [], ◌∷◌, length, None, nat_lt, sym, ap, subst, ◌∙◌, arith}
use Rattle.std.specs.Option.{option_map}
use Rattle.std.proofs.lemmas.List.{length-map}
use Rattle.std.proofs.lemmas.Bool.Decides.{nat_tests}
use Rattle.array_tree.specs.Trees.{ProgramTree}
use Rattle.array_meaning.specs.Plans.{plan_of, sites_in}
use Rattle.transfer_table.specs.Causes.{cause_if, first_cause}
use Rattle.transfer_table.specs.Plan.{has_too_many_sites, bad_parent, plan_fault_of}
use Rattle.transfer_table.specs.declared.plan.PlanFault.TheVariants as fault
use Rattle.site_counts.specs.Capped.{capped}
use Rattle.disjoint_check.specs.LimitFault.{room_for}
use Rattle.disjoint_check.specs.Inside.Unrolled.{Rows, parents_in, shape, shapes_in, with_sequence}
use Rattle.disjoint_check.proofs.Parents.{plan_is, plan_length, good_plan}

right_harts : (n : ℕ) → 1 ≤ n → n ≤ 16 → ((n == 0) || nat_lt 16 n) ≡ false
right_harts n some few = grind (arith, nat_tests)

right_sites : (sites entries : ℕ) → sites ≤ 4095 → entries ≤ 65535 → (nat_lt 4095 sites || nat_lt 65535 entries) ≡ false
right_sites sites entries few short = grind (arith, nat_tests)

no_fault : (n : ℕ) (qs : List ℕ) → 1 ≤ n → n ≤ 16 → length qs ≤ 4095 → room_for (length qs) n ≤ 65535 → bad_parent qs 1 ≡ None → plan_fault_of n qs ≡ None
no_fault n qs some few sites short good =
    let harts = right_harts n some few in
    let count : has_too_many_sites record { harts = n; parents = qs } ≡ false = right_sites (length qs) (room_for (length qs) n) sites short in
    ap (λ b. first_cause (cause_if b (fault.BadHarts n) ∷ cause_if (has_too_many_sites record { harts = n; parents = qs }) (fault.TooManySites (length qs)) ∷ option_map fault.BadParent (bad_parent qs 1) ∷ [])) harts
    ∙ ap (λ b. first_cause (cause_if b (fault.TooManySites (length qs)) ∷ option_map fault.BadParent (bad_parent qs 1) ∷ [])) count
    ∙ ap (λ o. first_cause (option_map fault.BadParent o ∷ [])) good

pub rows_length : (rows : Rows) → length (shapes_in rows) ≡ length (parents_in rows)
rows_length rows = length-map rows shape ∙ sym (length-map rows (λ r. r.parent))

pub plan_count : (program : ProgramTree) → sites_in program.body ≤ 4095 → length (plan_of program) ≡ sites_in program.body
plan_count program few =
    ap length (sym (plan_is program few)) ∙ length-map (with_sequence program.body 0 []) (λ r. r.parent) ∙ plan_length program

pub plan_right : (program : ProgramTree) (harts : ℕ) → 1 ≤ harts → harts ≤ 16 → sites_in program.body ≤ 4095 → room_for (sites_in program.body) harts ≤ 65535 → plan_fault_of harts (plan_of program) ≡ None
plan_right program harts some most few short =
    let count = sym (plan_count program few) in
    no_fault harts (plan_of program) some most
    (subst (λ (n : ℕ). n ≤ 4095) count few) (subst (λ (n : ℕ). room_for n harts ≤ 65535) count short) (good_plan program)

pub uncapped : (n : ℕ) → n ≤ 16384 → capped n ≡ n
uncapped n h = omega (arith, h)

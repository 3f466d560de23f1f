-- The works that a step leaves are fit.
use Rattle.std.proofs.Common.{◌≡◌, ℕ, ◌+◌, ◌*◌, Bool, true, false, cond, List, [], ◌∷◌, ◌++◌, ℤ, pos, ◌+ℤ◌, refl, ap, subst, ◌∙◌, arith}
use Rattle.std.specs.Prelude.{int_lt}
use Rattle.array_tree.specs.Trees.{Expression, Statement, Assign, For, If, Par, Team, Sequence, ended, followed}
use Rattle.array_meaning.specs.Values.{holds}
use Rattle.array_meaning.specs.Stores.{Vars, Store, arrays_of, value_of}
use Rattle.array_meaning.specs.Work.{span, statement_work}
use Rattle.array_meaning.specs.Plans.{statement_sites_in, sites_in}
use Rattle.array_meaning.proofs.StepLemmas.{span_next}
use Rattle.array_jobs.specs.Works.{WorkTree, branch_of, member_of, sites_of}
use Rattle.array_jobs.specs.Jobs.{JobTree, IsFit}
use Rattle.step_eval.specs.Rest.{WorkAt, at, before, instead, AreFit}
use Rattle.step_eval.specs.Moves.{work_moved, moved, work_passes, moved_sites}
use Rattle.step_eval.proofs.FitParts.{parts_of, refit, sequence_parts, member_parts, turn_parts, side_parts, below_of_test}

-- The rest of a fit block is fit; its sites follow those of the first statement.
pub fit_rest : (job : JobTree) (next : ℕ) (first : Statement) (rest : Sequence) (vars : Vars) →
    IsFit (instead job next (at (branch_of (followed first rest)) vars)) → IsFit (instead job (next + statement_sites_in first) (at (branch_of rest) vars))
fit_rest job next first rest vars fit =
    let all = at (branch_of (followed first rest)) vars in
    let parts = (sequence_parts job.arrays vars first rest (parts_of job next all fit)).1 in
    let room = fit.sites in
    refit job next all (next + statement_sites_in first) (at (branch_of rest) vars) fit parts (omega (arith, room))

-- The turns of a fit loop that has begun are fit.
pub fit_loop : (job : JobTree) (next : ℕ) (line : ℕ) (var : List ℕ) (low high : ℤ) (body rest : Sequence) (vars : Vars) →
    IsFit (instead job next (at (branch_of (followed (For line var low high body) rest)) vars)) → IsFit (instead job next (at (member_of var low high body) vars))
fit_loop job next line var low high body rest vars fit =
    let first = For line var low high body in
    let all = at (branch_of (followed first rest)) vars in
    let parts = (sequence_parts job.arrays vars first rest (parts_of job next all fit)).0 in
    let room = fit.sites in
    refit job next all next (at (member_of var low high body) vars) fit
    (member_parts job.arrays vars line var low high body (statement_work first vars) parts) (omega (arith, room))

-- The sites of a loop with a turn left are those of the turn and those of the later turns.
pub turn_sites_in : (var : List ℕ) (low high : ℤ) (body : Sequence) → int_lt low high ≡ true →
    sites_of (member_of var low high body) ≡ sites_in body + sites_of (member_of var (low +ℤ pos 1) high body)
turn_sites_in var low high body below =
    ap (λ n. n * sites_in body) (span_next low high (below_of_test low high below)) ∙ omega arith

-- A loop with no turn left has no site.
pub no_turn_sites : (var : List ℕ) (low high : ℤ) (body : Sequence) → int_lt low high ≡ false → sites_of (member_of var low high body) ≡ 0
no_turn_sites var low high body above = rw above (omega arith)

-- The first turn of a fit loop is fit.
pub fit_turn : (job : JobTree) (next : ℕ) (var : List ℕ) (low high : ℤ) (body : Sequence) (vars : Vars) → int_lt low high ≡ true →
    IsFit (instead job next (at (member_of var low high body) vars)) → IsFit (instead job next (at (branch_of body) ((var, low) ∷ vars)))
fit_turn job next var low high body vars below fit =
    let all = at (member_of var low high body) vars in
    let parts = (turn_parts job.arrays vars 0 var low high body below (parts_of job next all fit)).0 in
    let room = fit.sites in
    let sites = turn_sites_in var low high body below in
    refit job next all next (at (branch_of body) ((var, low) ∷ vars)) fit parts (omega (arith, room, sites))

-- The later turns of a fit loop are fit; their sites follow those of the first turn.
pub fit_turns : (job : JobTree) (next : ℕ) (var : List ℕ) (low high : ℤ) (body : Sequence) (vars : Vars) → int_lt low high ≡ true →
    IsFit (instead job next (at (member_of var low high body) vars)) →
    IsFit (instead job (next + sites_in body) (at (member_of var (low +ℤ pos 1) high body) vars))
fit_turns job next var low high body vars below fit =
    let all = at (member_of var low high body) vars in
    let parts = (turn_parts job.arrays vars 0 var low high body below (parts_of job next all fit)).1 in
    let room = fit.sites in
    let sites = turn_sites_in var low high body below in
    refit job next all (next + sites_in body) (at (member_of var (low +ℤ pos 1) high body) vars) fit parts (omega (arith, room, sites))

-- Both sides of a fit `if` are fit; the sites of the second side follow those of the first.
pub fit_sides : (job : JobTree) (next line : ℕ) (cond : Expression) (then_block else_block rest : Sequence) (vars : Vars) →
    IsFit (instead job next (at (branch_of (followed (If line cond then_block else_block) rest)) vars)) →
    IsFit (instead job next (at (branch_of then_block) vars)) × IsFit (instead job (next + sites_in then_block) (at (branch_of else_block) vars))
fit_sides job next line cond then_block else_block rest vars fit =
    let first = If line cond then_block else_block in
    let all = at (branch_of (followed first rest)) vars in
    let parts = side_parts job.arrays vars line cond then_block else_block (sequence_parts job.arrays vars first rest (parts_of job next all fit)).0 in
    let room = fit.sites in (
      refit job next all next (at (branch_of then_block) vars) fit parts.0 (omega (arith, room)),
      refit job next all (next + sites_in then_block) (at (branch_of else_block) vars) fit parts.1 (omega (arith, room)),
    )

-- ---- all works

fit_at : (job : JobTree) (n m : ℕ) (w : WorkAt) → n ≡ m → IsFit (instead job n w) → IsFit (instead job m w)
fit_at job n m w same fit = subst (λ k. IsFit (instead job k w)) same fit

-- A work with an equal next site.
are_at : (job : JobTree) (n m : ℕ) (ws : List WorkAt) → n ≡ m → AreFit job n ws → AreFit job m ws
are_at job n m ws same fit = subst (λ k. AreFit job k ws) same fit

-- A block after its first statement.
rest_fit : (job : JobTree) (next : ℕ) (first : Statement) (rest : Sequence) (vars : Vars) (n : ℕ) (more : List WorkAt) →
    AreFit job next (before (branch_of (followed first rest)) vars n ∷ more) → AreFit job (next + statement_sites_in first) (before (branch_of rest) vars n ∷ more)
rest_fit job next first rest vars n more fit = (
  fit_rest job next first rest vars fit.0,
  are_at job (next + (statement_sites_in first + sites_in rest) + n) (next + statement_sites_in first + sites_in rest + n) more (omega arith) fit.1,
)

work_fits : (job : JobTree) (next : ℕ) (w : WorkTree) (vars : Vars) (n : ℕ) (more : List WorkAt) (store : Store) → AreFit job next (before w vars n ∷ more) →
    AreFit job (next + work_passes (arrays_of job.arrays) store w vars n) (work_moved (arrays_of job.arrays) store w vars n ++ more)
work_fits job next (branch_of ended) vars n more store fit = are_at job (next + 0 + n) (next + n) more (omega arith) fit.1
work_fits job next (branch_of (followed (Assign line array index value) rest)) vars n more store fit = rest_fit job next (Assign line array index value) rest vars n more fit
work_fits job next (branch_of (followed (For line var low high body) rest)) vars n more store fit =
    let s = span low high * sites_in body in
    let z : next ≡ next + 0 = omega arith in
    let y : next + s ≡ next + 0 + s + 0 = omega arith in (
      fit_at job next (next + 0) (at (member_of var low high body) vars) z (fit_loop job next line var low high body rest vars fit.0),
      are_at job (next + s) (next + 0 + s + 0) (before (branch_of rest) vars n ∷ more) y (rest_fit job next (For line var low high body) rest vars n more fit),
    )
work_fits job next (branch_of (followed (If line test left right) rest)) vars n more store fit =
    sides (holds (value_of (arrays_of job.arrays) vars test store)) (fit_sides job next line test left right rest vars fit.0) (rest_fit job next (If line test left right) rest vars n more fit)
  where
    sides : (b : Bool) → IsFit (instead job next (at (branch_of left) vars)) × IsFit (instead job (next + sites_in left) (at (branch_of right) vars)) →
        AreFit job (next + (sites_in left + sites_in right)) (before (branch_of rest) vars n ∷ more) →
        AreFit job (next + cond b 0 (sites_in left)) (cond b (before (branch_of left) vars (sites_in right)) (at (branch_of right) vars) ∷ before (branch_of rest) vars n ∷ more)
    sides true both later =
        let l = sites_in left in
        let r = sites_in right in
        let y : next + (l + r) ≡ next + 0 + l + r = omega arith in
        (fit_at job next (next + 0) (before (branch_of left) vars r) (omega arith) both.0, are_at job (next + (l + r)) (next + 0 + l + r) (before (branch_of rest) vars n ∷ more) y later)
    sides false both later =
        let l = sites_in left in
        let r = sites_in right in
        let y : next + (l + r) ≡ next + l + r + 0 = omega arith in
        (both.1, are_at job (next + (l + r)) (next + l + r + 0) (before (branch_of rest) vars n ∷ more) y later)
work_fits job next (branch_of (followed (Par line branches) rest)) vars n more store fit = rest_fit job next (Par line branches) rest vars n more fit
work_fits job next (branch_of (followed (Team line var low high members phases) rest)) vars n more store fit = rest_fit job next (Team line var low high members phases) rest vars n more fit
work_fits job next (member_of var low high body) vars n more store fit = turn (int_lt low high) refl
  where
    turn : (b : Bool) → int_lt low high ≡ b →
        AreFit job (next + cond b 0 n) (cond b (at (branch_of body) ((var, low) ∷ vars) ∷ before (member_of var (low +ℤ pos 1) high body) vars n ∷ []) [] ++ more)
    turn true below =
        let sites = turn_sites_in var low high body below in
        let s = sites_in body in
        let k = span (low +ℤ pos 1) high * sites_in body in
        let z : next ≡ next + 0 = omega arith in
        let y : next + s ≡ next + 0 + s + 0 = omega arith in (
          fit_at job next (next + 0) (at (branch_of body) ((var, low) ∷ vars)) z (fit_turn job next var low high body vars below fit.0),
          (
            fit_at job (next + s) (next + 0 + s + 0) (before (member_of var (low +ℤ pos 1) high body) vars n) y (fit_turns job next var low high body vars below fit.0),
            are_at job (next + sites_of (member_of var low high body) + n) (next + 0 + s + 0 + k + n) more (omega (arith, sites)) fit.1,
          ),
        )
    turn false above =
        let none = no_turn_sites var low high body above in
        are_at job (next + sites_of (member_of var low high body) + n) (next + n) more (omega (arith, none)) fit.1

-- Each work that a step leaves is fit.
pub fit_moved : (job : JobTree) (next : ℕ) (w : WorkAt) (more : List WorkAt) (store : Store) → AreFit job next (w ∷ more) →
    AreFit job (next + moved_sites (arrays_of job.arrays) store w) (moved (arrays_of job.arrays) store w ++ more)
fit_moved job next w more store fit = work_fits job next w.work w.vars w.after more store fit

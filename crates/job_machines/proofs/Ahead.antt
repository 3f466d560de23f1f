-- How the remaining parts of a machine last and move.
use Rattle.std.proofs.Common.{◌≡◌, ℕ, zero, suc, ◌+◌, ◌-◌, ◌*◌, ◌≤◌, inl, inr, Bool, true, false, cond, List, [], ◌∷◌, ◌++◌, replicate, Option, Some, None, pos, ◌+ℤ◌, refl, sym, ap, subst, arith}
use Rattle.std.specs.Prelude.{int_lt}
use Rattle.transfer_table.specs.Plan.{Plan}
use Rattle.transfer_table.specs.declared.entry.Entry.{Entry}
use Rattle.transfer_table.specs.Accounts.{AreOverAs, AreFresh, HasGrown, KeepsOutside}
use Rattle.transfer_table.specs.AccountLaws.{IsSkippedSpan}
use Rattle.transfer_table.proofs.Algebra.{over_lasts, fresh_joins, fresh_lasts}
use Rattle.array_tree.specs.Trees.{Statement, Assign, For, If, Par, Team, Sequence, ended, followed}
use Rattle.array_meaning.specs.Values.{holds}
use Rattle.array_meaning.specs.Stores.{Arrays, Vars, Store, value_of}
use Rattle.array_meaning.specs.Work.{span}
use Rattle.array_meaning.specs.Plans.{sites_in, statement_sites_in}
use Rattle.array_jobs.specs.Works.{WorkTree, branch_of, member_of, sites_of}
use Rattle.step_eval.specs.Rest.{WorkAt, at, before}
use Rattle.step_eval.specs.Moves.{work_moved, work_passes}
use Rattle.step_eval.specs.Machines.{construct_of}
use Rattle.step_eval.proofs.LeftLemmas.{span_times}
use Rattle.step_eval.specs.Passes.{some_span, work_pass}
use Rattle.job_machines.specs.Piece.{IsAhead, SkipsAsReported, NextConstructsAreFresh}

fresh_at : (p : Plan) (es : List Entry) (s t n m : ℕ) → s ≡ t → n ≡ m → AreFresh p es s n → AreFresh p es t m
fresh_at p es s t n m a b fresh x site low high = fresh x site (omega (arith, low, a)) (omega (arith, high, a, b))

over_at : (p : Plan) (es : List Entry) (s t n : ℕ) → s ≡ t → AreOverAs p es s (replicate n false) → AreOverAs p es t (replicate n false)
over_at p es s t n a over = subst (λ x. AreOverAs p es x (replicate n false)) a over

ahead_at : (p : Plan) (es : List Entry) (s t : ℕ) (ws : List WorkAt) → s ≡ t → IsAhead p es s ws → IsAhead p es t ws
ahead_at p es s t ws a ahead = subst (λ x. IsAhead p es x ws) a ahead

-- The remaining parts stay so while only sites before them are touched.
pub ahead_lasts : (p : Plan) (es es' : List Entry) (next t m : ℕ) (ws : List WorkAt) → HasGrown p es es' → KeepsOutside p es es' t m → t + m ≤ next → IsAhead p es next ws → IsAhead p es' next ws
ahead_lasts p es es' next t m [] grown keeps le h = tt
ahead_lasts p es es' next t m (w ∷ ws) grown keeps le h = (
  fresh_lasts p es es' next (sites_of w.work) t m keeps (inr le) h.0,
  over_lasts p es es' (next + sites_of w.work) (replicate w.after false) grown h.1,
  ahead_lasts p es es' (next + sites_of w.work + w.after) t m ws grown keeps (omega (arith, le)) h.2,
)

-- The sites of a first statement are fresh, and the rest after them is ahead.
pub rest_ahead : (p : Plan) (es : List Entry) (next : ℕ) (first : Statement) (rest : Sequence) (vars : Vars) (n : ℕ) (more : List WorkAt) →
    IsAhead p es next (before (branch_of (followed first rest)) vars n ∷ more) →
    AreFresh p es next (statement_sites_in first) × IsAhead p es (next + statement_sites_in first) (before (branch_of rest) vars n ∷ more)
rest_ahead p es next first rest vars n more h =
    let a = statement_sites_in first in
    let b = sites_in rest in
    let both = (fresh_joins p es next a b).0 h.0 in
    (both.0, (both.1, over_at p es (next + (a + b)) (next + a + b) n (omega arith) h.1, ahead_at p es (next + (a + b) + n) (next + a + b + n) more (omega arith) h.2))

-- A hart skipped the span that it was to skip, unless the span is empty.
reported : (p : Plan) (es es' : List Entry) (a n : ℕ) → SkipsAsReported p es es' (some_span a n) → IsSkippedSpan p es es' a n
reported p es es' a zero same = subst (λ e. IsSkippedSpan p es e a 0) (sym same) record {
  over = tt;
  grown = record { went = λ x. omega arith; skipped = λ x. omega arith };
  outside = λ x site out. record { came = refl; went = refl; skipped = refl };
}
reported p es es' a (suc n) skipped = let z : a + suc n - a ≡ suc n = omega arith in subst (IsSkippedSpan p es es' a) z skipped

abbrev Steps : Plan → List Entry → Arrays → Store → WorkTree → Vars → ℕ → List WorkAt → ℕ → Type 0
Steps p es arrays store w vars n more next =
    AreOverAs p es next (replicate (work_passes arrays store w vars n) false)
    × IsAhead p es (next + work_passes arrays store w vars n) (work_moved arrays store w vars n ++ more)

work_ends : (p : Plan) (es : List Entry) (next k n : ℕ) (more : List WorkAt) → k ≡ 0 → AreOverAs p es (next + k) (replicate n false) → IsAhead p es (next + k + n) more
    → AreOverAs p es next (replicate n false) × IsAhead p es (next + n) more
work_ends p es next k n more none over later =
    (over_at p es (next + k) next n (omega (arith, none)) over, ahead_at p es (next + k + n) (next + n) more (omega (arith, none)) later)

pub work_steps : (p : Plan) (es es' : List Entry) (arrays : Arrays) (store : Store) (w : WorkTree) (vars : Vars) (n : ℕ) (more : List WorkAt) (next : ℕ) → construct_of w ≡ None →
    SkipsAsReported p es es' (work_pass arrays store next w vars) → IsAhead p es next (before w vars n ∷ more) → Steps p es' arrays store w vars n more next
work_steps p es es' arrays store (branch_of ended) vars n more next none same h =
    subst (λ e. Steps p e arrays store (branch_of ended) vars n more next) (sym same) (work_ends p es next 0 n more refl h.1 h.2)
work_steps p es es' arrays store (branch_of (followed (Assign line array index value) rest)) vars n more next none same h =
    subst (λ e. Steps p e arrays store (branch_of (followed (Assign line array index value) rest)) vars n more next) (sym same)
    (tt, (rest_ahead p es next (Assign line array index value) rest vars n more h).1)
work_steps p es es' arrays store (branch_of (followed (For line var low high body) rest)) vars n more next none same h =
    let s = span low high * sites_in body in
    let both = rest_ahead p es next (For line var low high body) rest vars n more h in
    let z : next ≡ next + 0 = omega arith in
    let y : next + s ≡ next + 0 + s + 0 = omega arith in
    subst (λ e. Steps p e arrays store (branch_of (followed (For line var low high body) rest)) vars n more next) (sym same)
    (tt, (fresh_at p es next (next + 0) s s z refl both.0, tt, ahead_at p es (next + s) (next + 0 + s + 0) (before (branch_of rest) vars n ∷ more) y both.1))
work_steps p es es' arrays store (branch_of (followed (If line test left right) rest)) vars n more next none skipped h =
    sides (holds (value_of arrays vars test store)) skipped
  where
    sl : ℕ
    sl = sites_in left

    sr : ℕ
    sr = sites_in right

    behind : List WorkAt
    behind = before (branch_of rest) vars n ∷ more

    sides : (b : Bool) → SkipsAsReported p es es' (cond b (some_span (next + sites_in left) (sites_in right)) (some_span next (sites_in left))) →
        AreOverAs p es' next (replicate (cond b 0 (sites_in left)) false)
        × IsAhead p es' (next + cond b 0 (sites_in left)) (cond b (before (branch_of left) vars (sites_in right)) (at (branch_of right) vars) ∷ before (branch_of rest) vars n ∷ more)
    sides true skipped =
        let l = sites_in left in
        let r = sites_in right in
        let both = rest_ahead p es next (If line test left right) rest vars n more h in
        let parts = (fresh_joins p es next l r).0 both.0 in
        let is = reported p es es' (next + l) r skipped in
        let here = fresh_lasts p es es' next l (next + l) r is.outside (inl (omega arith)) parts.0 in
        let later = ahead_lasts p es es' (next + (l + r)) (next + l) r (before (branch_of rest) vars n ∷ more) is.grown is.outside (omega arith) both.1 in (
          tt,
          (
            fresh_at p es' next (next + 0) l l (omega arith) refl here,
            over_at p es' (next + l) (next + 0 + l) r (omega arith) is.over,
            ahead_at p es' (next + (l + r)) (next + 0 + l + r) (before (branch_of rest) vars n ∷ more) (omega arith) later,
          ),
        )
    sides false skipped =
        let l = sites_in left in
        let r = sites_in right in
        let both = rest_ahead p es next (If line test left right) rest vars n more h in
        let parts = (fresh_joins p es next l r).0 both.0 in
        let is = reported p es es' next l skipped in
        let here = fresh_lasts p es es' (next + l) r next l is.outside (inr (omega arith)) parts.1 in
        let later = ahead_lasts p es es' (next + (l + r)) next l (before (branch_of rest) vars n ∷ more) is.grown is.outside (omega arith) both.1 in
        (is.over, (here, tt, ahead_at p es' (next + (l + r)) (next + l + r + 0) (before (branch_of rest) vars n ∷ more) (omega arith) later))
work_steps p es es' arrays store (branch_of (followed (Par line branches) rest)) vars n more next none skipped h = cc
work_steps p es es' arrays store (branch_of (followed (Team line var low high members phases) rest)) vars n more next none skipped h = cc
work_steps p es es' arrays store (member_of var low high body) vars n more next none same h =
    subst (λ e. Steps p e arrays store (member_of var low high body) vars n more next) (sym same) (cases (int_lt low high) refl)
  where
    cases : (b : Bool) → int_lt low high ≡ b → AreOverAs p es next (replicate (cond b 0 n) false)
        × IsAhead p es (next + cond b 0 n) (cond b (at (branch_of body) ((var, low) ∷ vars) ∷ before (member_of var (low +ℤ pos 1) high body) vars n ∷ []) [] ++ more)
    cases true e =
        let s = sites_in body in
        let k = span (low +ℤ pos 1) high * sites_in body in
        let turn : span low high * sites_in body ≡ s + k = span_times low high (sites_in body) e in
        let parts = (fresh_joins p es next s k).0 (fresh_at p es next next (span low high * sites_in body) (s + k) refl turn h.0) in
        let z : next ≡ next + 0 = omega arith in (
          tt,
          (
            fresh_at p es next (next + 0) s s z refl parts.0,
            tt,
            (
              fresh_at p es (next + s) (next + 0 + s + 0) k k (omega arith) refl parts.1,
              over_at p es (next + span low high * sites_in body) (next + 0 + s + 0 + k) n (omega (arith, turn)) h.1,
              ahead_at p es (next + span low high * sites_in body + n) (next + 0 + s + 0 + k + n) more (omega (arith, turn)) h.2,
            ),
          ),
        )
    cases false e = let none : span low high * sites_in body ≡ 0 = (let z : span low high ≡ 0 = rw e refl in rw z (omega arith)) in
        work_ends p es next (span low high * sites_in body) n more none h.1 h.2

abbrev found : Statement → Option Statement → Statement
found other None = other
found other (Some c) = c

pub work_supplies : (p : Plan) (es es' : List Entry) (arrays : Arrays) (store : Store) (w : WorkTree) (vars : Vars) (n : ℕ) (more : List WorkAt) (next : ℕ) (c : Statement) → construct_of w ≡ Some c →
    HasGrown p es es' → KeepsOutside p es es' next (statement_sites_in c) → IsAhead p es next (before w vars n ∷ more) →
    (work_passes arrays store w vars n ≡ statement_sites_in c) × IsAhead p es' (next + work_passes arrays store w vars n) (work_moved arrays store w vars n ++ more)
    × AreFresh p es next (statement_sites_in c)
work_supplies p es es' arrays store (branch_of (followed (Par line branches) rest)) vars n more next c e grown keeps h =
    let first = Par line branches in
    let is : first ≡ c = ap (λ (o : Option Statement). found first o) e in
    let both = rest_ahead p es next first rest vars n more h in
    let same = ap statement_sites_in is in
    let keeps' : KeepsOutside p es es' next (statement_sites_in first) = subst (λ d. KeepsOutside p es es' next (statement_sites_in d)) (sym is) keeps in (
      same,
      ahead_lasts p es es' (next + statement_sites_in first) next (statement_sites_in first) (before (branch_of rest) vars n ∷ more) grown keeps' (omega arith) both.1,
      fresh_at p es next next (statement_sites_in first) (statement_sites_in c) refl same both.0,
    )
work_supplies p es es' arrays store (branch_of (followed (Team line var low high members phases) rest)) vars n more next c e grown keeps h =
    let first = Team line var low high members phases in
    let is : first ≡ c = ap (λ (o : Option Statement). found first o) e in
    let both = rest_ahead p es next first rest vars n more h in
    let same = ap statement_sites_in is in
    let keeps' : KeepsOutside p es es' next (statement_sites_in first) = subst (λ d. KeepsOutside p es es' next (statement_sites_in d)) (sym is) keeps in (
      same,
      ahead_lasts p es es' (next + statement_sites_in first) next (statement_sites_in first) (before (branch_of rest) vars n ∷ more) grown keeps' (omega arith) both.1,
      fresh_at p es next next (statement_sites_in first) (statement_sites_in c) refl same both.0,
    )
work_supplies p es es' arrays store w vars n more next c e grown keeps h = cc

pub next_constructs_are_fresh : NextConstructsAreFresh
next_constructs_are_fresh p es w more next c e h =
    (work_supplies p es es [] [] w.work w.vars w.after more next c e record { went = λ x. omega arith; skipped = λ x. omega arith }
    (λ x site out. record { came = refl; went = refl; skipped = refl }) h).2

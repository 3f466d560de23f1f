-- The sites of a span that a hart is to skip are fresh.
use Rattle.std.proofs.Common.{◌≡◌, ℕ, zero, suc, ◌+◌, ◌-◌, Bool, true, false, cond, List, [], ◌∷◌, Option, Some, None, ap, arith}
use Rattle.transfer_table.specs.Plan.{Plan}
use Rattle.transfer_table.specs.declared.entry.Entry.{Entry}
use Rattle.transfer_table.specs.Accounts.{AreFresh}
use Rattle.transfer_table.proofs.Algebra.{fresh_joins}
use Rattle.array_tree.specs.Trees.{Assign, For, If, Par, Team, ended, followed}
use Rattle.array_meaning.specs.Values.{holds}
use Rattle.array_meaning.specs.Stores.{Arrays, Vars, Store, value_of}
use Rattle.array_meaning.specs.Plans.{sites_in}
use Rattle.array_jobs.specs.Works.{WorkTree, branch_of, member_of}
use Rattle.step_eval.specs.Rest.{WorkAt, before}
use Rattle.step_eval.specs.Passes.{some_span, work_pass}
use Rattle.job_machines.specs.Piece.{IsAhead, NextPassesAreFresh}
use Rattle.job_machines.proofs.Ahead.{rest_ahead}

abbrev first_in : Option (ℕ × ℕ) → ℕ
first_in None = 0
first_in (Some s) = s.0

abbrev end_in : Option (ℕ × ℕ) → ℕ
end_in None = 0
end_in (Some s) = s.1

span_fresh : (p : Plan) (es : List Entry) (a n : ℕ) (span : ℕ × ℕ) → some_span a n ≡ Some span → AreFresh p es a n → AreFresh p es span.0 (span.1 - span.0)
span_fresh p es a zero span e fresh = absurd (cc)
span_fresh p es a (suc n) span e fresh = λ x site low high.
    let start : a ≡ span.0 = ap first_in e in
    let end : a + suc n ≡ span.1 = ap end_in e in
    fresh x site (omega (arith, low, start)) (omega (arith, high, start, end))

work_reported : (p : Plan) (es : List Entry) (arrays : Arrays) (store : Store) (next : ℕ) (w : WorkTree) (vars : Vars) (n : ℕ) (more : List WorkAt) (span : ℕ × ℕ) →
    work_pass arrays store next w vars ≡ Some span → IsAhead p es next (before w vars n ∷ more) → AreFresh p es span.0 (span.1 - span.0)
work_reported p es arrays store next (branch_of ended) vars n more span e h = absurd (cc)
work_reported p es arrays store next (branch_of (followed (Assign line array index value) rest)) vars n more span e h = absurd (cc)
work_reported p es arrays store next (branch_of (followed (For line var low high body) rest)) vars n more span e h = absurd (cc)
work_reported p es arrays store next (branch_of (followed (If line test left right) rest)) vars n more span e h = sides (holds (value_of arrays vars test store)) e
  where
    sides : (b : Bool) → cond b (some_span (next + sites_in left) (sites_in right)) (some_span next (sites_in left)) ≡ Some span → AreFresh p es span.0 (span.1 - span.0)
    sides true f = span_fresh p es (next + sites_in left) (sites_in right) span f ((fresh_joins p es next (sites_in left) (sites_in right)).0 (rest_ahead p es next (If line test left right) rest vars n more h).0).1
    sides false f = span_fresh p es next (sites_in left) span f ((fresh_joins p es next (sites_in left) (sites_in right)).0 (rest_ahead p es next (If line test left right) rest vars n more h).0).0
work_reported p es arrays store next (branch_of (followed (Par line branches) rest)) vars n more span e h = absurd (cc)
work_reported p es arrays store next (branch_of (followed (Team line var low high members phases) rest)) vars n more span e h = absurd (cc)
work_reported p es arrays store next (member_of var low high body) vars n more span e h = absurd (cc)

pub next_passes_are_fresh : NextPassesAreFresh
next_passes_are_fresh p es arrays store next [] span e h = absurd (cc)
next_passes_are_fresh p es arrays store next (w ∷ more) span e h = work_reported p es arrays store next w.work w.vars w.after more span e h

-- How the account of a machine begins, continues and ends.
use Rattle.std.proofs.Common.{◌≡◌, ℕ, ◌+◌, ◌-◌, ◌≤◌, Bool, false, List, [], ◌∷◌, ◌++◌, length, replicate, Option, Some, None, refl, sym, ap, subst, ◌∙◌, arith, append_assoc, append-nil, length-append}
use Rattle.std.proofs.lemmas.List.{length-replicate}
use Rattle.transfer_table.specs.Plan.{Plan}
use Rattle.transfer_table.specs.declared.entry.Entry.{Entry}
use Rattle.transfer_table.specs.Accounts.{AreOverAs, HasGrown, KeepsOutside}
use Rattle.transfer_table.proofs.Algebra.{over_lasts, over_joins, kept_joins}
use Rattle.array_meaning.specs.Stores.{Arrays, Store, after}
use Rattle.array_meaning.specs.Entered.{statement_entered}
use Rattle.array_meaning.proofs.EnteredLemmas.{statement_length}
use Rattle.step_eval.specs.Rest.{WorkAt, rest_sites}
use Rattle.step_eval.specs.Moves.{moved_writes, moved, moved_sites}
use Rattle.step_eval.specs.Passes.{pass_of}
use Rattle.job_machines.specs.Entering.{rest_entered}
use Rattle.job_machines.proofs.Counts.{passes_are_within, rest_is_counted}
use Rattle.job_machines.proofs.Goes.{steps_pass_sites, supplies_pass_sites}
use Rattle.job_machines.specs.Piece.{IsAhead, IsAccounted, SkipsAsReported, AccountsBegin, AccountsStep, AccountsPassConstructs, AccountsEnd}
use Rattle.job_machines.proofs.Ahead.{work_steps, work_supplies}

pub grown_then : (p : Plan) (a b c : List Entry) → HasGrown p a b → HasGrown p b c → HasGrown p a c
grown_then p a b c one two = record {
  went = λ x. let l = one.went x in let r = two.went x in omega (arith, l, r);
  skipped = λ x. let l = one.skipped x in let r = two.skipped x in omega (arith, l, r);
}

-- The sites that are passed are added to the account.
advances : (p : Plan) (start es es' : List Entry) (arrays : Arrays) (first : ℕ) (meant : List Bool) (ws ws' : List WorkAt) (store store' : Store) (next next' t m : ℕ) (x : List Bool) →
    next + length x ≡ next' → rest_entered arrays ws store ≡ x ++ rest_entered arrays ws' store' → AreOverAs p es' next x → IsAhead p es' next' ws' →
    HasGrown p es es' → KeepsOutside p es es' t m → next ≤ t → t + m ≤ next + rest_sites ws →
    IsAccounted p start es arrays first meant ws store next → IsAccounted p start es' arrays first meant ws' store' next'
advances p start es es' arrays first meant ws ws' store store' next next' t m x place whole over ahead grown outside low high a =
    let was = a.place in
    let longer = length-append a.passed x in
    let left = rest_is_counted arrays ws store in
    let all = ap length (sym a.whole) ∙ length-append a.passed (rest_entered arrays ws store) in
    let le : first ≤ first = omega arith in
    let end : first + length meant ≤ first + length meant = omega arith in
    record {
      passed = a.passed ++ x;
      place = omega (arith, was, longer, place);
      whole = append_assoc a.passed x (rest_entered arrays ws' store') ∙ ap (λ y. a.passed ++ y) (sym whole) ∙ a.whole;
      over = (over_joins p es' first a.passed x).1 (over_lasts p es es' first a.passed grown a.over, subst (λ s. AreOverAs p es' s x) (sym was) over);
      ahead = ahead;
      grown = grown_then p start es es' a.grown grown;
      outside = kept_joins p start es es' first (length meant) t m first (length meant) a.outside outside le end (omega (arith, was, low)) (omega (arith, was, high, left, all));
    }

-- A step touches only what is left.
record Touches (p : Plan) (es es' : List Entry) (next : ℕ) (ws : List WorkAt) : Type 0 where
  first : ℕ
  count : ℕ
  low : next ≤ first
  high : first + count ≤ next + rest_sites ws
  grown : HasGrown p es es'
  outside : KeepsOutside p es es' first count

step_touches : (p : Plan) (es es' : List Entry) (arrays : Arrays) (store : Store) (next : ℕ) (ws : List WorkAt) → SkipsAsReported p es es' (pass_of arrays store next ws) → Touches p es es' next ws
step_touches p es es' arrays store next ws skips = cases (pass_of arrays store next ws) refl skips
  where
    cases : (o : Option (ℕ × ℕ)) → pass_of arrays store next ws ≡ o → SkipsAsReported p es es' o → Touches p es es' next ws
    cases None e same = subst (λ z. Touches p es z next ws) (sym same) record {
      first = next;
      count = 0;
      low = omega arith;
      high = omega arith;
      grown = record { went = λ x. omega arith; skipped = λ x. omega arith };
      outside = λ x site out. record { came = refl; went = refl; skipped = refl };
    }
    cases (Some span) e skipped =
        let within = passes_are_within arrays store next ws span e in
        let some = within.some in
        let high = within.high in record {
          first = span.0;
          count = span.1 - span.0;
          low = within.low;
          high = omega (arith, some, high);
          grown = skipped.grown;
          outside = skipped.outside;
        }

pub accounts_step : AccountsStep
accounts_step p start es es' arrays first meant w more store next none skips a =
    let n = moved_sites arrays store w in
    let st = work_steps p es es' arrays store w.work w.vars w.after more next none skips a.ahead in
    let touched = step_touches p es es' arrays store next (w ∷ more) skips in
    let long = length-replicate n false in
    advances p start es es' arrays first meant (w ∷ more) (moved arrays store w ++ more) store (after (moved_writes arrays store w.work w.vars) store) next (next + n) touched.first touched.count
    (replicate n false) (omega (arith, long)) (steps_pass_sites arrays store w more none) st.0 st.1 touched.grown touched.outside touched.low touched.high a

pub accounts_pass_constructs : AccountsPassConstructs
accounts_pass_constructs p start es es' arrays first meant w more store next construct is ran a =
    let n = moved_sites arrays store w in
    let st = work_supplies p es es' arrays store w.work w.vars w.after more next construct is ran.grown ran.outside a.ahead in
    let entered = statement_entered arrays construct w.vars store in
    let long = statement_length arrays construct w.vars store in
    let count = st.0 in
    let goes = supplies_pass_sites arrays store w more construct is in
    let left = rest_is_counted arrays (w ∷ more) store in
    let parts = ap length goes ∙ length-append entered (rest_entered arrays (moved arrays store w ++ more) (after (moved_writes arrays store w.work w.vars) store)) in
    advances p start es es' arrays first meant (w ∷ more) (moved arrays store w ++ more) store (after (moved_writes arrays store w.work w.vars) store) next (next + n) next _
    entered (omega (arith, long, count)) goes ran.over st.1 ran.grown ran.outside (omega arith) (omega (arith, long, left, parts)) a

pub accounts_begin : AccountsBegin
accounts_begin p es arrays first work vars store fresh = record {
  passed = [];
  place = omega arith;
  whole = append-nil _;
  over = tt;
  ahead = (fresh, tt, tt);
  grown = record { went = λ x. omega arith; skipped = λ x. omega arith };
  outside = λ x site out. record { came = refl; went = refl; skipped = refl };
}

pub accounts_end : AccountsEnd
accounts_end p start es arrays first meant store next a = subst (AreOverAs p es first) (sym (append-nil a.passed) ∙ a.whole) a.over

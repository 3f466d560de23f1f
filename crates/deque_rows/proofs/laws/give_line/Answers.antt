use Rattle.std.proofs.Common.{◌≡◌, ◌≢◌, ◌<◌, ◌*◌, ◌+◌, ℕ, List, [], ◌∷◌, ◌++◌, length, get_or, vec_len, ap, sym, ◌∙◌, arith, inl, inr}
use Rattle.std.proofs.lemmas.Bool.{cases_eq}
use Rattle.std.proofs.lemmas.List.{get_or_append_left}
use Rattle.std.proofs.Math.Seq.{get_or-append_seam}
use Rattle.deque_rows.specs.declared.account.Log.{Log}
use Rattle.deque_rows.specs.declared.ends.StealingEnd.{StealingEnd}
use Rattle.deque_rows.specs.Account.{joined}
use Rattle.deque_rows.specs.Rows.{owner_log, row_at}
use Rattle.deque_rows.specs.Lines.{end_log, end_name}
use Rattle.deque_rows.proofs.Places.{owner_put, owner_else}
use Rattle.deque_rows.proofs.laws.give_line.Goals as goal

-- The elements of the popped list, and the popped element.
popped : (was now : List StealingEnd) (end : StealingEnd) (n : ℕ) → was ≡ now ++ end ∷ [] → length now ≡ n
    → ((r : ℕ) (d : StealingEnd) → r < n → get_or now r d ≡ get_or was r d) × ((d : StealingEnd) → end ≡ get_or was n d)
popped was now end n items count = (
  (λ r d below. sym (get_or_append_left now (end ∷ []) d r (omega (arith, below, count))) ∙ ap (λ l. get_or l r d) (sym items)),
  (λ d. sym (get_or-append_seam now end [] d) ∙ ap (λ i. get_or (now ++ end ∷ []) i d) count ∙ ap (λ l. get_or l n d) (sym items)),
)

pub give_back-requires-clause-of : goal.give_back-requires-clause-of
give_back-requires-clause-of c = λ n.
    let i = c.loop-end.invariant in
    let now = c.pop.new.self in
    let count : length now.items ≡ c.len.result = (let k = now.ok in let e = c.len.ensures in omega (arith, k, e)) in
    let one : vec_len now + 1 ≡ vec_len c.loop-end.ends = omega (arith, c.in-Some.ensures.len) in
    let at = popped c.loop-end.ends.items now.items c.in-Some.end c.len.result c.in-Some.ensures.items count in
    let end = c.in-Some.end in
    let there : c.len.result < vec_len c.loop-end.ends = (let e = c.len.ensures in omega (arith, one, e)) in
    let few : c.len.result < 3 * length c.args.rows.now = (let a = i.1 in omega (arith, a, there)) in
    ap end_name (at.1 end ∙ i.0 c.len.result end there) ∙ c.requires.of c.len.result end n few ∙ ap (λ l. row_at n l c.len.result) (sym i.4)

pub loop-end-preserved : goal.loop-end-preserved
loop-end-preserved c =
    let i = c.loop-end.invariant in
    let now = c.pop.new.self in
    let n = c.len.result in
    let first = c.args.rows.now in
    let e = c.len.ensures in
    let count : length now.items ≡ n = (let k = now.ok in omega (arith, k, e)) in
    let one : vec_len now + 1 ≡ vec_len c.loop-end.ends = omega (arith, c.in-Some.ensures.len) in
    let at = popped c.loop-end.ends.items now.items c.in-Some.end n c.in-Some.ensures.items count in
    let there : n < vec_len c.loop-end.ends = omega (arith, one, e) in
    let few : n < 3 * length c.loop-end.rows = (let a = i.1 in let b = c.loop-end.auto.rows in omega (arith, a, b, there)) in
    let put = owner_put c.loop-end.rows c.give_back.new.rows n _ few c.give_back.ensures.joined in
    let other = owner_else c.loop-end.rows c.give_back.new.rows n _ few c.give_back.ensures.joined in (
      (λ r d below. at.0 r d (omega (arith, below, e)) ∙ i.0 r d (omega (arith, below, one))),
      (let a = i.1 in omega (arith, a, one)),
      (λ r below. other r (let apart : r ≢ n = λ is. omega (arith, is, below, e) in apart) ∙ i.2 r (omega (arith, below, one))),
      (λ r d above few_r. elim (cases_eq r n) [
        | inl is ↦
            let log : end_log c.in-Some.end ≡ end_log (get_or c.args.ends.items n d) = ap end_log (at.1 d ∙ i.0 n d there) in
            ap (owner_log c.give_back.new.rows) is ∙ put
            ∙ ap (λ (v : Log). joined v (end_log c.in-Some.end)) (i.2 n there)
            ∙ ap (λ (w : Log). joined (owner_log first n) w) log
            ∙ ap (λ k. joined (owner_log first k) (end_log (get_or c.args.ends.items k d))) (sym is)
        | inr apart ↦ other r apart ∙ i.3 r d (omega (arith, above, one, apart, e)) few_r
      ]),
      c.give_back.ensures.names ∙ i.4,
      c.give_back.ensures.standing ∙ i.5,
    )

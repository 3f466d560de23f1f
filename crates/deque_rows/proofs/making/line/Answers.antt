use Rattle.std.proofs.Common.{◌≡◌, ◌≢◌, ◌<◌, ◌*◌, map, length, sym, ap, subst, ◌∙◌, arith, inl, inr}
use Rattle.std.proofs.lemmas.Bool.{cases_eq}
use Rattle.deque_rows.specs.declared.account.Log.{Log}
use Rattle.deque_rows.specs.Rows.{home_names, owner_log, row_at}
use Rattle.deque_rows.specs.Lines.{IsLine, less}
use Rattle.deque_rows.proofs.Places.{owner_put, owner_else, line_more}
use Rattle.deque_rows.proofs.making.line.Goals as goal

pub loop-row-preserved : goal.loop-row-preserved
loop-row-preserved c =
    let i = c.loop-row.invariant in
    let row = c.loop-row.row in
    let was = c.loop-row.rows in
    let now = c.lend.new.rows in
    let first = c.args.rows.now in
    let there : row < 3 * length was = omega (arith, c.loop-row-test.true, c.loop-row.auto.rows) in
    let w : Log = less (owner_log was row) in
    let put = owner_put was now row w there c.in_ok-lend.ensures.cut in
    let other = owner_else was now row w there c.in_ok-lend.ensures.cut in
    let count : length c.loop-row.ends.items ≡ row = (let k = c.loop-row.ends.ok in let l = i.0 in omega (arith, k, l)) in
    let line = line_more (map home_names first) c.loop-row.ends.items c.in_ok-lend.field-0 i.1 c.in_ok-lend.ensures.blank
    (λ n. c.in_ok-lend.ensures.of n ∙ ap (λ l. row_at n l row) i.4 ∙ ap (λ k. row_at n (map home_names first) k) (sym count)) in (
      (let a = c.in_ok-push.ensures.len in let b = i.0 in omega (arith, a, b)),
      subst (IsLine (map home_names first)) (sym c.in_ok-push.ensures.items) line,
      (λ r below. elim (cases_eq r row) [
        | inl same ↦ ap (owner_log now) same ∙ put ∙ ap less (i.3 row (omega arith) ∙ ap (owner_log first) (sym same))
        | inr apart ↦ other r apart ∙ i.2 r (omega (arith, below, apart))
      ]),
      (λ r above. other r (let apart : r ≢ row = λ e. omega (arith, e, above) in apart) ∙ i.3 r (omega (arith, above))),
      c.in_ok-lend.ensures.names ∙ i.4,
      c.in_ok-lend.ensures.standing ∙ i.5,
    )

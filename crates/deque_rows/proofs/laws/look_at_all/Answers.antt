use Rattle.std.proofs.Common.{◌≡◌, ℕ, List, ap, sym, subst, ◌∙◌, arith, inl, inr}
use Rattle.std.proofs.lemmas.Bool.{cases_eq}
use Rattle.deque_rows.specs.declared.account.Log.{Log}
use Rattle.deque_rows.specs.Account.{idle, Determines}
use Rattle.deque_rows.specs.Rows.{owner_log, row_at}
use Rattle.deque_rows.proofs.laws.look_at_all.Goals as goal

pub loop-row-preserved : goal.loop-row-preserved
loop-row-preserved c =
    let i = c.loop-row.invariant in
    let row = c.loop-row.row in
    let first = c.args.rows.now in
    let same : owner_log c.loop-row.rows row ≡ owner_log first row = ap (λ l. row_at idle l row) i.0 in (
      c.look.ensures.logs ∙ i.0,
      (λ r below. elim (cases_eq r row) [
        | inl is ↦ subst (λ (v : Log). (items : List ℕ) × Determines v items) (same ∙ ap (owner_log first) (sym is)) c.look.ensures.determines
        | inr other ↦ i.1 r (omega (arith, below, other))
      ]),
    )

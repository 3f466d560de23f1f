use Rattle.std.proofs.Common.{◌≤◌, ◌-◌, arith, ap, sym, subst}
use Rattle.transfer_table.specs.Plan.{site_count}
use Rattle.transfer_table.specs.Table.{Position, is_gone}
use Rattle.transfer_table.specs.declared.entry.Row.{Row}
use Rattle.transfer_table.proofs.Counts.{board-wishes, row_read}
use Rattle.transfer_table.proofs.board.Board.request.Goals as goal

pub overflow_add-row : goal.overflow_add-row
overflow_add-row c = let z = ap (λ (q : Position). site_count q.plan) c.self.view_is in let f = c.in_ok-check_owner.ensures.found in
    let r = row_read _ _ (c.args.site - 1) c.index_mut-row.result.now c.self.invariant (omega arith) c.index_mut-row.ensures.value in
    let few : c.index_mut-row.result.now.wishes ≤ c.index_mut-row.result.now.asked = subst (λ (x : Row). x.wishes ≤ x.asked) (sym r) (c.self.invariant.wished c.args.site) in omega arith

pub invariant_of-self-2 : goal.invariant_of-self-2
invariant_of-self-2 c = let z = ap (λ (q : Position). site_count q.plan) c.self.view_is in let f = c.in_ok-check_owner.ensures.found in
    let r = row_read _ _ (c.args.site - 1) c.index_mut-row.result.now c.self.invariant (omega arith) c.index_mut-row.ensures.value in
    let few : c.index_mut-row.result.now.wishes ≤ c.index_mut-row.result.now.asked = subst (λ (x : Row). x.wishes ≤ x.asked) (sym r) (c.self.invariant.wished c.args.site) in
    board-wishes _ _ (c.args.site - 1) _ c.self.invariant (ap (λ (x : Row). is_gone x.stage) r) (omega arith)

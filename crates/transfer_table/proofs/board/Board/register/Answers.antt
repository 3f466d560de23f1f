use Rattle.std.proofs.Common.{◌-◌, arith, ap, sym, ◌∙◌}
use Rattle.transfer_table.specs.Plan.{site_count}
use Rattle.transfer_table.specs.Table.{Position, is_gone}
use Rattle.transfer_table.specs.declared.entry.Row.{Row}
use Rattle.transfer_table.proofs.Counts.{board-row, row_read}
use Rattle.transfer_table.proofs.board.Board.register.Goals as goal

pub invariant_of-self-2 : goal.invariant_of-self-2
invariant_of-self-2 c = let z = ap (λ (q : Position). site_count q.plan) c.self.view_is in let f = c.in_ok-check_owner.ensures.found in
    let r = row_read _ _ (c.args.site - 1) c.index_mut-row.result.now c.self.invariant (omega arith) c.index_mut-row.ensures.value in
    board-row _ _ c.args.hart c.args.site (c.args.site - 1) _ c.self.invariant (sym (ap (λ (x : Row). is_gone x.stage) (sym r) ∙ ap is_gone c.in-New.is)) (omega arith)

use Rattle.std.proofs.Common.{arith, ap}
use Rattle.transfer_table.specs.Plan.{site_count}
use Rattle.transfer_table.specs.Table.{Position}
use Rattle.transfer_table.proofs.Counts.{board-swept}
use Rattle.transfer_table.proofs.board.Board.sweep_one.Goals as goal

pub overflow_sub-index_mut : goal.overflow_sub-index_mut
overflow_sub-index_mut c = let z = ap (λ (q : Position). site_count q.plan) c.self.view_is in let f = c.requires in
    (board-swept _ _ c.args.site c.parent-parent.result c.index_mut.result.now c.from-counted.result c.is_gone.result c.index_mut-row.result.now
    c.self.invariant (omega arith) (omega arith) c.index_mut-row.ensures.value c.parent-parent.ensures.same c.index_mut.ensures.value c.is_gone.ensures c.from-counted.ensures).0

pub invariant_of-self : goal.invariant_of-self
invariant_of-self c = let z = ap (λ (q : Position). site_count q.plan) c.self.view_is in let f = c.requires in
    (board-swept _ _ c.args.site c.parent-parent.result c.index_mut.result.now c.from-counted.result c.is_gone.result c.index_mut-row.result.now
    c.self.invariant (omega arith) (omega arith) c.index_mut-row.ensures.value c.parent-parent.ensures.same c.index_mut.ensures.value c.is_gone.ensures c.from-counted.ensures).1

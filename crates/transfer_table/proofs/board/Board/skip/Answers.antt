use Rattle.std.proofs.Common.{◌-◌, arith, ap, sym, subst, ◌∙◌}
use Rattle.transfer_table.specs.Plan.{site_count, parent}
use Rattle.transfer_table.specs.Table.{Position, IsPosition, row}
use Rattle.transfer_table.specs.declared.entry.Row.{Row}
use Rattle.transfer_table.proofs.Counts.{row_read}
use Rattle.transfer_table.proofs.Positions.{answer-skip}
use Rattle.transfer_table.proofs.board.Board.skip.Goals as goal

pub returns : goal.returns
returns c = let z = ap (λ (q : Position). site_count q.plan) c.self.view_is in let f = c.in_ok-check_owner.ensures.found in
    let r = row_read _ _ (c.args.site - 1) c.index.result.now c.self.invariant (omega arith) c.index.ensures in
    answer-skip c.args.self.now c.sweep.new.self c.args.hart c.args.site (subst IsPosition c.self.view_is c.self.invariant.position) f.0 f.1 (f.2 ∙ (c.parent.ensures.same ∙ ap (λ (q : Position). parent q.plan c.args.site) c.self.view_is))
    (sym (ap (λ (q : Position). (row q.state c.args.site).stage) c.self.view_is) ∙ (sym (ap (λ (x : Row). x.stage) r) ∙ c.in-New.is)) c.sweep.ensures

use Rattle.std.proofs.Common.{ℕ, ap, ◌∙◌, arith, slice_index_or, false}
use Rattle.std.specs.Option.{is_some}
use Rattle.transfer_table.specs.Plan.{site_count}
use Rattle.transfer_table.specs.Table.{row}
use Rattle.transfer_table.proofs.Faults.{meant-goes}
use Rattle.transfer_table.proofs.fault.first_unmeant.Goals as goal

pub loop-i-preserved : goal.loop-i-preserved
loop-i-preserved c = let t = c.loop-i-test.true in let size = c.requires in let n = c.sites-i-end.ensures.same in let p = ap site_count c.plan.ensures.same in
    c.loop-i.invariant ∙ meant-goes (λ s. is_some (row c.args.board.now.state s).home) c.args.meant.now c.loop-i.i c.is_some-registered.result (slice_index_or c.args.meant.now c.from.result false)
    (omega arith) c.if-registered-meant.false (c.is_some-registered.ensures ∙ ap is_some c.home.ensures.same) (ap (λ (k : ℕ). slice_index_or c.args.meant.now k false) c.from.ensures)

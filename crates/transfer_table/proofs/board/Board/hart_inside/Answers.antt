use Rattle.std.proofs.Common.{◌∙◌, sym, rules}
use Rattle.transfer_table.proofs.Scans.{next_other}
use Rattle.transfer_table.proofs.board.Board.hart_inside.Goals as goal

pub loop-i-preserved : goal.loop-i-preserved
loop-i-preserved c = c.loop-i.invariant ∙ (next_other c.args.self.now.state.owners c.args.hart c.args.site c.loop-i.i c.loop-i.i (search rules) (sym c.is_inside.ensures ∙ c.if-is_inside.false))

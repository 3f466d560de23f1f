use Rattle.std.proofs.Common.{◌∙◌, ap, arith, sym, ◌+◌, rules}
use Rattle.transfer_table.specs.Plan.{site_count}
use Rattle.transfer_table.specs.Table.{Position, blank, child_left}
use Rattle.transfer_table.proofs.Counts.{count_read, none_left}
use Rattle.transfer_table.proofs.Scans.{next_child}
use Rattle.transfer_table.proofs.board.Board.child_left.Goals as goal

pub loop-i-preserved : goal.loop-i-preserved
loop-i-preserved c = c.loop-i.invariant ∙ (next_child c.args.self.now.plan.parents c.args.self.now.state.rows c.args.site (c.loop-i.i + 1) c.loop-i.i blank (search rules) (search rules) (sym c.is_left.ensures ∙ c.if-is_left.false))

pub returns-then-index-eq0 : goal.returns-then-index-eq0
returns-then-index-eq0 c = let z = ap (λ (q : Position). site_count q.plan) c.self.view_is in
    let n = sym (count_read _ _ c.args.site c.index.result.now c.self.invariant (omega (arith, c.requires)) c.index.ensures) ∙ c.if-index-eq0.true in
    sym (ap (λ (q : Position). child_left q.plan q.state c.args.site) (sym c.self.view_is) ∙ none_left _ _ c.args.site 1 n)

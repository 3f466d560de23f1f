use Rattle.std.proofs.Common.{◌<◌, length, sym, ◌∙◌, arith}
use Rattle.std.proofs.lemmas.Grind.{common_steps}
use Rattle.array_tree.specs.declared.tree.Stmt.TheViews.{out-Blocks}
use Rattle.array_tree.proofs.Compared.{block_uneven, sides_uneven, blocks_step}
use Rattle.array_tree.proofs.equal.+equal.Goals as goal

pub same_block-returns-then-len : goal.same_block-returns-then-len
same_block-returns-then-len t c =
    sym (block_uneven c.args.a.now c.args.b.now (λ e. c.if-len.true (c.len.ensures ∙ e ∙ sym c.len-2.ensures)))

pub same_blocks-returns-then-len : goal.same_blocks-returns-then-len
same_blocks-returns-then-len t c =
    sym (sides_uneven c.args.a.now c.args.b.now (λ e. c.if-len.true (c.len.ensures ∙ e ∙ sym c.len-2.ensures)))

pub same_blocks-loop-i-preserved : goal.same_blocks-loop-i-preserved
same_blocks-loop-i-preserved t c =
    let within : c.loop-i.i < length (out-Blocks c.args.b.now).blocks.items = grind (arith, common_steps, c.loop-i-test.true, c.if-len.false, c.deref-block-items.ensures) in
    sym (blocks_step c.deref-block-items.result.now (out-Blocks c.args.b.now).blocks.items c.loop-i.i c.block-item.result c.index.result.now c.loop-i-test.true within c.block-item.is c.index.ensures c.if-not-same_block.ensures)
    ∙ c.loop-i.invariant

use Rattle.std.proofs.Common.{◌∷◌, [], map, refl, ◌∙◌}
use Rattle.array_tree.specs.Trees.{statement_of, sequence_of, sequences_of}
use Rattle.array_tree.proofs.Views.{sequence_of-statements}
use Rattle.spread_laws.specs.Served.{IsNarrowSequence, AreNarrow}
use Rattle.tally_cells.proofs.Pushed.{blocks_rolled, put_one, next_pushed, all_pushed, next_narrow, next_beside, all_beside, next_narrow_block}
use Rattle.tally_cells.proofs.copies.+copy.Goals as goal

pub copy_block-loop-statement-preserved : goal.copy_block-loop-statement-preserved
copy_block-loop-statement-preserved t c =
    let items = c.deref-statement-items.result.now in
    let item = c.statement-item.result in
    let i = c.loop-statement.statement-index in
    record {
      copied = next_pushed (λ s. s ∷ []) (λ r. r) (λ s r. refl) (map statement_of c.loop-statement.statements.items) (map statement_of c.push.new.self.items) items item i (sequence_of c.args.block.now)
          c.loop-statement-test.true c.statement-item.is
          (put_one statement_of c.loop-statement.statements.items c.push.new.self.items c.in_ok-copy_statement.field-0 (statement_of item) c.in_ok-push.ensures.items c.in_ok-copy_statement.ensures.copied)
          c.loop-statement.invariant.copied;
      narrow = next_narrow items item i (IsNarrowSequence (sequence_of c.args.block.now)) c.loop-statement-test.true c.statement-item.is c.in_ok-copy_statement.ensures.narrow c.loop-statement.invariant.narrow;
    }

pub copy_block-returns-clause-copied : goal.copy_block-returns-clause-copied
copy_block-returns-clause-copied t c =
    sequence_of-statements _ ∙ all_pushed (λ r. r) refl (map statement_of c.loop-statement.statements.items) c.deref-statement-items.result.now c.loop-statement.statement-index (sequence_of c.args.block.now)
    c.loop-statement-test.false c.loop-statement.invariant.copied

pub copy_blocks-loop-block-preserved : goal.copy_blocks-loop-block-preserved
copy_blocks-loop-block-preserved t c =
    let items = c.deref-block-items.result.now in
    let item = c.block-item.result in
    let i = c.loop-block.block-index in
    record {
      copied = next_beside (λ b. b) (λ r. r) (λ r. r) (λ b r. refl) (map sequence_of c.loop-block.copies.items) (map sequence_of c.push.new.self.items) items item i (sequences_of c.args.blocks.now)
          c.loop-block-test.true c.block-item.is
          (put_one sequence_of c.loop-block.copies.items c.push.new.self.items c.in_ok-copy_block.field-0 (sequence_of item) c.in_ok-push.ensures.items c.in_ok-copy_block.ensures.copied)
          c.loop-block.invariant.copied;
      narrow = next_narrow_block items item i (AreNarrow (sequences_of c.args.blocks.now)) c.loop-block-test.true c.block-item.is c.in_ok-copy_block.ensures.narrow c.loop-block.invariant.narrow;
    }

pub copy_blocks-returns-clause-copied : goal.copy_blocks-returns-clause-copied
copy_blocks-returns-clause-copied t c =
    blocks_rolled (record { blocks = c.loop-block.copies }) ∙ all_beside (λ r. r) refl (map sequence_of c.loop-block.copies.items) c.deref-block-items.result.now c.loop-block.block-index (sequences_of c.args.blocks.now)
    c.loop-block-test.false c.loop-block.invariant.copied

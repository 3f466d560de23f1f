use Rattle.std.proofs.Common.{map, refl, ◌∙◌}
use Rattle.array_tree.specs.Trees.{statement_of, sequence_of}
use Rattle.array_tree.proofs.Views.{sequence_of-statements}
use Rattle.spread_laws.specs.Spread.{spread_sequence, spread_statement}
use Rattle.spread_laws.specs.Served.{IsNarrowSequence}
use Rattle.tally_cells.proofs.Pushed.{next_pushed, all_pushed, next_narrow, next_ranges}
use Rattle.tally_cells.proofs.outside.+outside.Goals as goal

pub spread_block-loop-statement-preserved : goal.spread_block-loop-statement-preserved
spread_block-loop-statement-preserved t c =
    let items = c.deref-statement-items.result.now in
    let item = c.statement-item.result in
    let i = c.loop-statement.statement-index in
    record {
      ranges = (next_ranges items item i c.loop-statement-test.true c.statement-item.is c.loop-statement.invariant.ranges).1;
      spread = next_pushed (spread_statement c.args.layout.now) (spread_sequence c.args.layout.now) (λ s r. refl) (map statement_of c.loop-statement.statements.items) (map statement_of c.push_spread.new.out.items) items item i
          (spread_sequence c.args.layout.now (sequence_of c.args.block.now)) c.loop-statement-test.true c.statement-item.is c.in_ok-push_spread.ensures.spread c.loop-statement.invariant.spread;
      narrow = next_narrow items item i (IsNarrowSequence (sequence_of c.args.block.now)) c.loop-statement-test.true c.statement-item.is c.in_ok-push_spread.ensures.narrow c.loop-statement.invariant.narrow;
    }

pub spread_block-returns-clause-spread : goal.spread_block-returns-clause-spread
spread_block-returns-clause-spread t c =
    sequence_of-statements _ ∙ all_pushed (spread_sequence c.args.layout.now) refl (map statement_of c.loop-statement.statements.items) c.deref-statement-items.result.now c.loop-statement.statement-index
    (spread_sequence c.args.layout.now (sequence_of c.args.block.now)) c.loop-statement-test.false c.loop-statement.invariant.spread

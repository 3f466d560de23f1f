use Rattle.std.proofs.Common.{◌∷◌, [], map, refl, ◌∙◌}
use Rattle.array_tree.specs.Trees.{expression_of, statement_of, sequence_of}
use Rattle.array_tree.proofs.Views.{sequence_of-statements}
use Rattle.spread_laws.specs.Spread.{spread_inside, statement_spread_inside}
use Rattle.spread_laws.specs.Served.{IsNarrowSequence}
use Rattle.tally_cells.proofs.Pushed.{put_one, next_pushed, all_pushed, next_narrow}
use Rattle.tally_cells.proofs.inside.+inside.Goals as goal

pub spread_block-loop-statement-preserved : goal.spread_block-loop-statement-preserved
spread_block-loop-statement-preserved t c =
    let items = c.deref-statement-items.result.now in
    let item = c.statement-item.result in
    let i = c.loop-statement.statement-index in
    record {
      spread = next_pushed (λ s. statement_spread_inside c.args.layout.now (expression_of c.args.row.now) s ∷ []) (spread_inside c.args.layout.now (expression_of c.args.row.now)) (λ s r. refl) (map statement_of c.loop-statement.statements.items) (map statement_of c.push.new.self.items) items item i (spread_inside c.args.layout.now (expression_of c.args.row.now) (sequence_of c.args.block.now))
          c.loop-statement-test.true c.statement-item.is
          (put_one statement_of c.loop-statement.statements.items c.push.new.self.items c.in_ok-spread_statement.field-0 (statement_spread_inside c.args.layout.now (expression_of c.args.row.now) (statement_of item)) c.in_ok-push.ensures.items c.in_ok-spread_statement.ensures.spread)
          c.loop-statement.invariant.spread;
      narrow = next_narrow items item i (IsNarrowSequence (sequence_of c.args.block.now)) c.loop-statement-test.true c.statement-item.is c.in_ok-spread_statement.ensures.narrow c.loop-statement.invariant.narrow;
    }

pub spread_block-returns-clause-spread : goal.spread_block-returns-clause-spread
spread_block-returns-clause-spread t c =
    sequence_of-statements _ ∙ all_pushed (spread_inside c.args.layout.now (expression_of c.args.row.now)) refl (map statement_of c.loop-statement.statements.items) c.deref-statement-items.result.now c.loop-statement.statement-index (spread_inside c.args.layout.now (expression_of c.args.row.now) (sequence_of c.args.block.now))
    c.loop-statement-test.false c.loop-statement.invariant.spread

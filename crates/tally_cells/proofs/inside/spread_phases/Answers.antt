use Rattle.std.proofs.Common.{map, refl, ◌∙◌}
use Rattle.array_tree.specs.Trees.{expression_of, sequence_of, sequences_of}
use Rattle.spread_laws.specs.Spread.{spread_inside, spread_phases}
use Rattle.spread_laws.specs.Served.{AreNarrow}
use Rattle.tally_cells.proofs.Pushed.{blocks_rolled, put_one, next_beside, all_beside, next_narrow_block}
use Rattle.tally_cells.proofs.inside.spread_phases.Goals as goal

pub loop-phase-preserved : goal.loop-phase-preserved
loop-phase-preserved c =
    let items = c.deref-phase-items.result.now in
    let item = c.phase-item.result in
    let i = c.loop-phase.phase-index in
    let all = spread_phases c.args.layout.now (expression_of c.args.row.now) in
    record {
      spread = next_beside (spread_inside c.args.layout.now (expression_of c.args.row.now)) all all (λ b r. refl) (map sequence_of c.loop-phase.blocks.items) (map sequence_of c.push.new.self.items) items item i (all (sequences_of c.args.phases.now))
          c.loop-phase-test.true c.phase-item.is
          (put_one sequence_of c.loop-phase.blocks.items c.push.new.self.items c.in_ok-spread_block.field-0 (spread_inside c.args.layout.now (expression_of c.args.row.now) (sequence_of item)) c.in_ok-push.ensures.items c.in_ok-spread_block.ensures.spread)
          c.loop-phase.invariant.spread;
      narrow = next_narrow_block items item i (AreNarrow (sequences_of c.args.phases.now)) c.loop-phase-test.true c.phase-item.is c.in_ok-spread_block.ensures.narrow c.loop-phase.invariant.narrow;
    }

pub returns-clause-spread : goal.returns-clause-spread
returns-clause-spread c =
    blocks_rolled (record { blocks = c.loop-phase.blocks }) ∙ all_beside (spread_phases c.args.layout.now (expression_of c.args.row.now)) refl (map sequence_of c.loop-phase.blocks.items) c.deref-phase-items.result.now c.loop-phase.phase-index
    (spread_phases c.args.layout.now (expression_of c.args.row.now) (sequences_of c.args.phases.now)) c.loop-phase-test.false c.loop-phase.invariant.spread

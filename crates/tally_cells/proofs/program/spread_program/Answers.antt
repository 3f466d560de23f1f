use Rattle.std.proofs.Common.{◌≡◌, rules}
use Rattle.array_tree.specs.Trees.{program_of}
use Rattle.spread_laws.specs.Spread.{spread_of}
use Rattle.tally_cells.proofs.Meant.{meant_sized, kept_at}
use Rattle.tally_cells.proofs.program.spread_program.Goals as goal

pub new-requires : goal.new-requires
new-requires c = meant_sized (program_of c.args.program.now) c.requires.meaning

same : (c : goal.After-drop-layout-inside-2) → program_of (record { arrays = c.in_ok-spread_arrays.field-0; body = c.in_ok-spread_block.field-0 }) ≡ spread_of (program_of c.args.program.now)
same c = search rules

pub returns-clause-kept : goal.returns-clause-kept
returns-clause-kept c =
    kept_at (program_of c.args.program.now) (program_of (record { arrays = c.in_ok-spread_arrays.field-0; body = c.in_ok-spread_block.field-0 })) c.requires.meaning c.in_ok-spread_block.ensures.narrow c.requires.sound (same c)

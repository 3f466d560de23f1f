use Rattle.array_tree.specs.Trees.{program_of}
use Rattle.lithe_call.proofs.Tallying.{meaning_of}
use Rattle.lithe_call.proofs.tally.with_rows.Goals as goal

pub spread-requires : goal.spread-requires
spread-requires c = meaning_of (program_of c.args.program.now) c.args.harts c.in_default.ensures.meaning

use Rattle.array_meaning.proofs.InsideLemmas.{sized_in_range}
use Rattle.array_tree.specs.Trees.{program_of}
use Rattle.array_jobs.proofs.body.body_job.Goals as goal

pub count_cells-requires : goal.count_cells-requires
count_cells-requires c = sized_in_range (program_of c.args.program.now) c.requires.ranges

use Rattle.std.proofs.Common.{sym}
use Rattle.array_tree.specs.Trees.{program_of}
use Rattle.disjoint_check.proofs.Accepting.{sized, meaning_from}
use Rattle.disjoint_check.proofs.checker.check_meaning.Goals as goal

pub walk_indices-requires : goal.walk_indices-requires
walk_indices-requires c = sized (program_of c.args.program.now) c.args.harts (sym c.in_default.ensures)

pub returns-clause-meaning : goal.returns-clause-meaning
returns-clause-meaning c = meaning_from (program_of c.args.program.now) c.args.harts (sym c.in_default.ensures) c.in_ok-walk_indices.ensures.ok

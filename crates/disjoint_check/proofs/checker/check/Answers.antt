use Rattle.std.proofs.Common.{sym}
use Rattle.array_tree.specs.Trees.{program_of}
use Rattle.disjoint_check.proofs.Accepting.{sized, accepted_from}
use Rattle.disjoint_check.proofs.checker.check.Goals as goal

pub walk_program-requires : goal.walk_program-requires
walk_program-requires c = sized (program_of c.args.program.now) c.args.harts (sym c.in_default.ensures)

pub accept-requires-clause-accepted : goal.accept-requires-clause-accepted
accept-requires-clause-accepted c =
    accepted_from (program_of c.args.program.now) c.args.harts (sym c.in_default.ensures) c.in_ok-walk_program.ensures.ok

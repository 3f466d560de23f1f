use Rattle.std.proofs.Common.{subst, sym}
use Rattle.array_tree.specs.declared.tree.Program.{Program}
use Rattle.array_tree.specs.Trees.{program_of, declarations_of}
use Rattle.array_meaning.specs.Stores.{arrays_of, AreSized}
use Rattle.array_meaning.proofs.InsideLemmas.{sized_in_range}
use Rattle.run_audit.proofs.auditing.audit.Goals as goal

pub audit_by-requires-clause-sized : goal.audit_by-requires-clause-sized
audit_by-requires-clause-sized c =
    subst (λ (p : Program). AreSized (arrays_of (declarations_of p.arrays))) (sym c.program.ensures.same)
    (sized_in_range (program_of c.args.accepted.now.program) c.program.ensures.kept.accepted.ranges)

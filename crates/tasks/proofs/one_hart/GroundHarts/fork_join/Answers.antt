use Rattle.std.proofs.Common.{sym, subst, []}
use Rattle.std.specs.List.{AllZip}
use Rattle.tasks.proofs.Rest.{none_below}
use Rattle.tasks.proofs.one_hart.GroundHarts.fork_join.Goals as goal

pub returns-clause-outputs : goal.returns-clause-outputs
returns-clause-outputs g c =
    subst (λ ts. AllZip g.T.TaskKind.gives ts c.new.result.items) (sym (none_below g.T.TaskKind.depth c.args.tasks.items c.requires.depth))
    (subst (λ os. AllZip g.T.TaskKind.gives [] os) (sym c.new.ensures.items) tt)

use Rattle.std.proofs.Common.{Bool, List, IfSome, ◌∙◌, sym, ap, subst}
use Rattle.array_jobs.specs.Jobs.{JobParts}
use Rattle.forkjoin_sched.specs.Pools.{StartFrom, HaveOneStart, start_of}
use Rattle.forkjoin_sched.proofs.pool.Pool.start.Goals as goal

pub known_start-requires : goal.known_start-requires
known_start-requires c = λ is. subst HaveOneStart (sym c.jobs.ensures) (c.knows_start.ensures.one is)

pub returns-clause-known : goal.returns-clause-known
returns-clause-known c =
    c.known_start.ensures.known ∙ ap (start_of c.knows_start.result) c.jobs.ensures
    ∙ ap (λ (k : Bool). start_of k c.args.self.now.book.jobs) c.knows_start.ensures.known

pub returns-clause-all : goal.returns-clause-all
returns-clause-all c = subst (λ (l : List JobParts). IfSome c.known_start.result (λ start. StartFrom start.now l)) c.jobs.ensures c.known_start.ensures.all

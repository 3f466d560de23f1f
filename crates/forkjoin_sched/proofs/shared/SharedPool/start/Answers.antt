use Rattle.std.proofs.Common.{List, IfSome, ◌∙◌, sym, ap, subst}
use Rattle.array_jobs.specs.Jobs.{JobParts}
use Rattle.forkjoin_sched.specs.Pools.{StartFrom, HaveOneStart, start_of}
use Rattle.forkjoin_sched.specs.Shared.{SharedParts}
use Rattle.forkjoin_sched.proofs.shared.SharedPool.start.Goals as goal

pub known_start-requires : goal.known_start-requires
known_start-requires c = λ is. subst HaveOneStart (sym c.deref.ensures.value) (c.self.invariant.1 is)

pub returns-clause-known : goal.returns-clause-known
returns-clause-known c =
    c.known_start.ensures.known ∙ ap (start_of c.self.inside.knows_start) c.deref.ensures.value ∙ ap (λ (s : SharedParts). start_of s.knows_start s.jobs) c.self.view_is

pub returns-clause-all : goal.returns-clause-all
returns-clause-all c =
    subst (λ (l : List JobParts). IfSome c.known_start.result (λ start. StartFrom start.now l))
    (c.deref.ensures.value ∙ ap (λ (s : SharedParts). s.jobs) c.self.view_is) c.known_start.ensures.all

use Rattle.std.proofs.Common.{ap}
use Rattle.lithe_mutex.specs.Mutex.{value_in}
use Rattle.forkjoin_sched.proofs.pool.Pool.book.Goals as goal

pub returns : goal.returns
returns c =
    let found = c.in-Some.ensures in
    let kept = ap value_in c.self.invariant.0 in
    let told = ap (λ p. p.book) c.self.view_is in cc

use Rattle.std.proofs.Common.{ap}
use Rattle.deque_rows.specs.Rows.{Identity}
use Rattle.forkjoin_sched.proofs.RowSteps.{keeps_pop, more_by_pop, taken_if}
use Rattle.forkjoin_sched.proofs.pieces.pop_code.Goals as goal

pub returns-clause-keeps : goal.returns-clause-keeps
returns-clause-keeps c = keeps_pop c.args.rows.now c.pop.new.self c.args.level c.pop.result c.pop.ensures.identity c.pop.ensures.gives

pub returns-clause-harts : goal.returns-clause-harts
returns-clause-harts c = ap (λ (k : Identity). k.harts) c.pop.ensures.identity

pub returns-clause-more : goal.returns-clause-more
returns-clause-more c home = more_by_pop c.args.rows.now c.pop.new.self home c.args.level c.pop.result c.requires c.pop.ensures.gives

pub returns-clause-taken : goal.returns-clause-taken
returns-clause-taken c = taken_if c.args.rows.now c.pop.new.self c.args.level c.pop.result c.requires c.pop.ensures.gives

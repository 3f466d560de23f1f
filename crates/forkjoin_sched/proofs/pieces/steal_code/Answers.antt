use Rattle.deque_rows.specs.declared.stolen.Stolen.TheVariants.{Code, Empty}
use Rattle.forkjoin_sched.proofs.RowSteps.{more_by_steal}
use Rattle.forkjoin_sched.proofs.pieces.steal_code.Goals as goal

pub returns-in-Code-clause-more : goal.returns-in-Code-clause-more
returns-in-Code-clause-more g c =
    more_by_steal c.args.rows.now c.steal.new.self c.args.home c.args.level (Code c.in-Code.code) c.requires.row.0 c.requires.row.1 c.in-Code.ensures.gives

pub returns-in-Empty-clause-more : goal.returns-in-Empty-clause-more
returns-in-Empty-clause-more g c =
    more_by_steal c.args.rows.now c.steal.new.self c.args.home c.args.level Empty c.requires.row.0 c.requires.row.1 c.in-Empty.ensures.gives

use Rattle.deque_rows.specs.Rows.{home_logs}
use Rattle.deque_rows.proofs.Places.{kept_by}
use Rattle.deque_rows.proofs.lines.look.Goals as goal

pub returns-clause-logs : goal.returns-clause-logs
returns-clause-logs c = kept_by c.args.rows.now c.args.row c.requires.row c.look_own.new.self c.index-rows-row.result home_logs c.look_own.ensures.logs

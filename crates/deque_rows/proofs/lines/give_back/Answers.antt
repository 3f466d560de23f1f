use Rattle.deque_rows.specs.declared.account.Log.{Log}
use Rattle.deque_rows.specs.Account.{joined}
use Rattle.deque_rows.specs.Rows.{home_names}
use Rattle.deque_rows.specs.Lines.{standing, end_log}
use Rattle.deque_rows.proofs.Places.{kept_by, logs_put}
use Rattle.deque_rows.proofs.lines.give_back.Goals as goal

pub returns-clause-joined : goal.returns-clause-joined
returns-clause-joined c = logs_put c.args.rows.now c.args.row c.requires.row c.give_own.new.self c.index-rows-row.result (λ (v : Log). joined v (end_log c.args.end)) c.give_own.ensures.joined

pub returns-clause-names : goal.returns-clause-names
returns-clause-names c = kept_by c.args.rows.now c.args.row c.requires.row c.give_own.new.self c.index-rows-row.result home_names c.give_own.ensures.names

pub returns-clause-standing : goal.returns-clause-standing
returns-clause-standing c = kept_by c.args.rows.now c.args.row c.requires.row c.give_own.new.self c.index-rows-row.result standing c.give_own.ensures.standing

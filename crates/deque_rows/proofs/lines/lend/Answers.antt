use Rattle.std.proofs.Common.{◌-◌}
use Rattle.deque_rows.specs.declared.account.Log.{Log}
use Rattle.deque_rows.specs.Rows.{home_names}
use Rattle.deque_rows.specs.Lines.{standing}
use Rattle.deque_rows.proofs.Places.{ok_map, kept_by, logs_put}
use Rattle.deque_rows.proofs.lines.lend.Goals as goal

pub returns-clause-cut : goal.returns-clause-cut
returns-clause-cut c = ok_map c.lend_own.result (λ end cut. logs_put c.args.rows.now c.args.row c.requires.row c.lend_own.new.self c.index-rows-row.result (λ (v : Log). record v { parts = v.parts - 1 }) cut) c.lend_own.ensures.cut

pub returns-clause-names : goal.returns-clause-names
returns-clause-names c = kept_by c.args.rows.now c.args.row c.requires.row c.lend_own.new.self c.index-rows-row.result home_names c.lend_own.ensures.names

pub returns-clause-standing : goal.returns-clause-standing
returns-clause-standing c = kept_by c.args.rows.now c.args.row c.requires.row c.lend_own.new.self c.index-rows-row.result standing c.lend_own.ensures.standing

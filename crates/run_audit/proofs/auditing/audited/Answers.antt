use Rattle.std.proofs.Common.{◌+◌, length, arith}
use Rattle.run_audit.proofs.Within.{read_within, wider}
use Rattle.run_audit.proofs.auditing.audited.Goals as goal

pub reported_behind-requires-clause-within : goal.reported_behind-requires-clause-within
reported_behind-requires-clause-within c =
    wider (length c.args.found.now.rest.now + 1) 4194305 (omega arith) c.in-Err.fault (read_within c.args.plan.now c.args.found.now.rest.now c.in-Err.fault c.in-Err.ensures.first)

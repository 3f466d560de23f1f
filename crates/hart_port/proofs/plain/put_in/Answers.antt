-- An allowed entry is admitted.
use Rattle.transfer_table.proofs.Admits.{admits}
use Rattle.transfer_table.proofs.Positions.{legal_position}
use Rattle.hart_port.proofs.plain.put_in.Goals as goal

pub unreachable-requires : goal.unreachable-requires
unreachable-requires c =
    let l = c.args.ledger.now in
    let is = c.requires.ledger in
    let admitted = admits l.plan l.state c.args.entry (legal_position l.plan is.plan l.entries l.state is.reached) c.requires.allowed in
    let refused = c.in-Err.ensures.does.0 in
    cc

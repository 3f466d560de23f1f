-- A legal list that continues has fewer entries than there is room for.
use Rattle.std.proofs.Common.{arith}
use Rattle.transfer_table.proofs.Bounds.{legal_room}
use Rattle.transfer_table.proofs.Replays.{reaches-snoc}
use Rattle.hart_port.proofs.ledger.Ledger.admit.Goals as goal

pub push_reserved-requires : goal.push_reserved-requires
push_reserved-requires c =
    let b = c.self.inside.board in
    let is = c.self.invariant in
    let few = legal_room b.plan is.ledger.plan c.self.inside.entries.items b.state c.admit.new.self.state c.args.entry is.ledger.reached c.in_ok-admit.ensures.ok in
    let enough = is.enough in
    omega arith

pub invariant_of-self-2 : goal.invariant_of-self-2
invariant_of-self-2 c =
    let b = c.self.inside.board in
    let is = c.self.invariant in
    let plan = c.in_ok-admit.ensures.plan in
    let leads = reaches-snoc b.plan c.self.inside.entries.items c.args.entry b.state c.admit.new.self.state is.ledger.reached c.in_ok-admit.ensures.ok in
    let items = c.push_reserved.ensures.items in
    let capacity = c.push_reserved.ensures.capacity in
    record {
      ledger = record { plan = c.in_ok-admit.ensures.kept.plan; reached = rw (plan, items) leads; closing = rw plan is.ledger.closing };
      enough = rw (plan, capacity) is.enough;
    }

pub returns-clause-kept : goal.returns-clause-kept
returns-clause-kept c =
    let b = c.self.inside.board in
    let is = c.self.invariant in
    let plan = c.in_ok-admit.ensures.plan in
    let leads = reaches-snoc b.plan c.self.inside.entries.items c.args.entry b.state c.admit.new.self.state is.ledger.reached c.in_ok-admit.ensures.ok in
    let items = c.push_reserved.ensures.items in
    record { plan = c.in_ok-admit.ensures.kept.plan; reached = rw (plan, items) leads; closing = rw plan is.ledger.closing }

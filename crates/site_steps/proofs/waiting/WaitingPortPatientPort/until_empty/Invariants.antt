use Rattle.std.proofs.Common.{◌≡◌}
use Rattle.site_steps.proofs.waiting.WaitingPortPatientPort.until_empty.Given as goal

abbrev pub invariant-looks : goal.invariant-looks
invariant-looks g l = record {
  next : (goal.iterator-looks g).can_next l.iterator';
  finite : (goal.iterator-looks g).is_finite l.iterator';
  same : g.P.Port.seen l.self.port ≡ g.P.Port.seen l.fn.self.port;
  count : g.P.Port.refused l.self.port ≡ g.P.Port.refused l.fn.self.port;
}

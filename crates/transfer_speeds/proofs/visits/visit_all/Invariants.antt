use Rattle.std.proofs.Common.{◌≡◌}
use Rattle.transfer_speeds.proofs.visits.visit_all.Given as goal

-- The hart is back in the base of the same plan.
abbrev pub invariant-loop-before : goal.invariant-loop-before
invariant-loop-before g l = record {
  plan : (g.P.Port.seen l.port).plan ≡ (g.P.Port.seen l.initial.port).plan;
  base : (g.P.Port.seen l.port).owner ≡ 0;
}

use Rattle.std.proofs.Common.{◌≡◌}
use Rattle.board_tests.specs.Roam.{IsSameHart}
use Rattle.board_tests.proofs.roaming.came_in.Given as goal

-- The hart is still outside.
abbrev pub invariant-loop : goal.invariant-loop
invariant-loop g l = record {
  same : IsSameHart (g.P.Port.seen l.initial.port) (g.P.Port.seen l.port);
  homes : (g.P.Port.seen l.port).homes ≡ (g.P.Port.seen l.initial.port).homes;
  closed : (g.P.Port.seen l.port).closed ≡ (g.P.Port.seen l.initial.port).closed;
  owner : (g.P.Port.seen l.port).owner ≡ (g.P.Port.seen l.initial.port).owner;
}

use Rattle.std.proofs.Common.{◌≡◌, ◌≤◌, ℕ, true}
use Rattle.transfer_table.specs.Plan.{parent}
use Rattle.hart_port.specs.PortView.{is_in}
use Rattle.board_tests.specs.Roam.{HasLooked}
use Rattle.board_tests.proofs.roaming.saw_children_gone.Given as goal

-- The hart has only looked, and each child up to here was seen gone.
abbrev pub invariant-loop-before : goal.invariant-loop-before
invariant-loop-before g l = record {
  looked : HasLooked (g.P.Port.seen l.initial.port) (g.P.Port.seen l.port);
  gone : (c : ℕ) → 1 ≤ c → c ≤ l.before → parent l.plan c ≡ (g.P.Port.seen l.port).owner → is_in (g.P.Port.seen l.port).gone c ≡ true;
}

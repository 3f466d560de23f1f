use Rattle.std.proofs.Common.{◌≡◌, false}
use Rattle.step_eval.specs.Machines.{is_awaiting}
use Rattle.piece_tests.proofs.driving.driven.Given as goal

-- The machine awaits nothing.
abbrev pub invariant-loop : goal.invariant-loop
invariant-loop l = is_awaiting l.machine.stage ≡ false

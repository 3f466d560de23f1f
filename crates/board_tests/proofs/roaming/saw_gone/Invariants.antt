use Rattle.board_tests.specs.Roam.{HasLooked}
use Rattle.board_tests.proofs.roaming.saw_gone.Given as goal

-- The hart has only looked.
abbrev pub invariant-loop : goal.invariant-loop
invariant-loop g l = HasLooked (g.P.Port.seen l.initial.port) (g.P.Port.seen l.port)

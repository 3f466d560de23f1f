use Rattle.piece_tests.proofs.by_bound.+finished.Given as goal

-- Each step leaves one step less.
abbrev pub decreases-finished : goal.decreases-finished
decreases-finished g l = l.steps

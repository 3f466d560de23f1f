use Rattle.piece_tests.proofs.running.+run_context.Given as goal

-- Each run leaves one step less.
abbrev pub decreases-run_context : goal.decreases-run_context
decreases-run_context l = l.steps

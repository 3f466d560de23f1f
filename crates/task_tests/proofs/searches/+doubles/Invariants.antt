-- Each call has a level less.
use Rattle.task_tests.proofs.searches.+doubles.Given as goal

abbrev pub decreases-doubles : goal.decreases-doubles
decreases-doubles l = l.levels

use Rattle.task_crew.proofs.eight.run_observed_eight_levels.Given as goal

abbrev pub ghosts-run_eight : goal.ghosts-run_eight
ghosts-run_eight g a = record { table = a.run.board.table.shared.table_id; size = a.run.board.size }

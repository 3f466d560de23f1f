use Rattle.task_crew.proofs.run.run_observed.Given as goal

abbrev pub ghosts-run_sixteen : goal.ghosts-run_sixteen
ghosts-run_sixteen g a = record { table = a.run.board.table.shared.table_id; size = a.run.board.size }

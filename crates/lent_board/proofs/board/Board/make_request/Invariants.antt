use Rattle.lent_board.proofs.board.Board.make_request.Given as goal

-- The step's count is the call's.
abbrev pub ghosts-make_request_as : goal.ghosts-make_request_as
ghosts-make_request_as g a = record { count = a.count }

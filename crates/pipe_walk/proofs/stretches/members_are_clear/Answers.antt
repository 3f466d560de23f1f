use Rattle.pipe_walk.proofs.stretches.members_are_clear.Goals as goal

pub returns : goal.returns
returns c = c.each_is_clear.ensures

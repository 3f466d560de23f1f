use Rattle.step_eval.specs.Nests.{nested_of}
use Rattle.loop_team.proofs.TeamLemmas.{reached_more}
use Rattle.loop_team.proofs.team.lay_phase.Goals as goal

pub returns : goal.returns
returns c =
    reached_more (nested_of c.args.nested.now) c.args.phase c.args.store.now c.merge.new.self c.args.written.now.pairs
    c.requires.fit c.requires.phase c.requires.reached c.requires.written c.merge.ensures.noted

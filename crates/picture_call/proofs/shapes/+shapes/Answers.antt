use Rattle.std.proofs.Common.{[], ◌∷◌}
use Rattle.std.proofs.lemmas.Result.{on_ok_weaker}
use Rattle.array_tree.specs.Trees.{sequences_of}
use Rattle.journal_picture.proofs.Written.{more}
use Rattle.picture_call.specs.Shapes.{branches_shapes, par_shape, phases_shapes, team_shape}
use Rattle.picture_call.proofs.shapes.+shapes.Goals as goal

pub add_par-returns : goal.add_par-returns
add_par-returns t c =
    on_ok_weaker c.add_branches.result
    (more c.args.shapes.now.items c.push.new.self.items c.add_branches.new.shapes.items (par_shape c.args.line ∷ [])
    (branches_shapes c.args.teams (sequences_of c.args.branches.now)) c.in_ok-push.ensures.items) c.add_branches.ensures

pub add_team-returns : goal.add_team-returns
add_team-returns t c =
    on_ok_weaker c.add_phases.result
    (more c.args.shapes.now.items c.push.new.self.items c.add_phases.new.shapes.items (team_shape c.args.teams c.args.line ∷ [])
    (phases_shapes c.args.teams (sequences_of c.args.phases.now) c.args.iterations) c.in_ok-push.ensures.items) c.add_phases.ensures

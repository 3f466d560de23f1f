use Rattle.std.proofs.Common.{sym, ap, ◌∙◌}
use Rattle.std.specs.Prelude.{not}
use Rattle.array_tree.specs.Trees.{sequences_of}
use Rattle.array_meaning.specs.Stores.{cells_of}
use Rattle.array_meaning.specs.Sites.{phase_rounds}
use Rattle.array_eval.specs.Views.{vars_of}
use Rattle.phase_order.specs.Tests.{crossing}
use Rattle.pipe_walk.proofs.SiteLemmas.{keep_cell, keep_none}
use Rattle.pipe_walk.proofs.seek.CrossingsSiteSearch.keep_team.Goals as goal

pub returns-in-Some-clause-found : goal.returns-in-Some-clause-found
returns-in-Some-clause-found c =
    let turns = c.args.turns.now in
    let arrays = c.args.layout.now in
    let least = crossing arrays (cells_of arrays) (phase_rounds (sequences_of c.args.phases.now) turns.var.now turns.low turns.high c.args.members (vars_of c.args.scope.now)) in
    keep_cell c.args.self.now.found c.args.line c.in-Some.cell least (c.is_none.ensures ∙ ap not c.if-is_none.true) (sym c.crossing_in.ensures.found ∙ c.in-Some.is)

pub returns-in_default-clause-found : goal.returns-in_default-clause-found
returns-in_default-clause-found c =
    let turns = c.args.turns.now in
    let arrays = c.args.layout.now in
    let least = crossing arrays (cells_of arrays) (phase_rounds (sequences_of c.args.phases.now) turns.var.now turns.low turns.high c.args.members (vars_of c.args.scope.now)) in
    keep_none c.args.self.now.found c.args.line least (sym c.crossing_in.ensures.found ∙ c.in_default.is)

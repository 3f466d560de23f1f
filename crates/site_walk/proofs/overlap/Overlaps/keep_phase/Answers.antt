use Rattle.std.proofs.Common.{sym, ap, ◌∙◌}
use Rattle.std.specs.Prelude.{not}
use Rattle.array_tree.specs.Trees.{sequence_of}
use Rattle.array_meaning.specs.Stores.{cells_of}
use Rattle.array_meaning.specs.Work.{sequence_work}
use Rattle.array_meaning.specs.Members.{team_works}
use Rattle.array_meaning.specs.Overlap.{overlap}
use Rattle.array_eval.specs.Views.{vars_of}
use Rattle.site_walk.proofs.SiteLemmas.{keep_cell, keep_none}
use Rattle.site_walk.proofs.overlap.Overlaps.keep_phase.Goals as goal

pub returns-in-Some-clause-found : goal.returns-in-Some-clause-found
returns-in-Some-clause-found c =
    let turns = c.args.turns.now in
    let arrays = c.args.layout.now in
    let least = overlap arrays (cells_of arrays) (team_works turns.var.now turns.low turns.high c.args.members (sequence_work (sequence_of c.args.phase.now)) (vars_of c.args.scope.now)) in
    keep_cell c.args.self.now.found c.args.line c.in-Some.cell least (c.is_none.ensures ∙ ap not c.if-is_none.true) (sym c.overlap_of_members.ensures.found ∙ c.in-Some.is)

pub returns-in_default-clause-found : goal.returns-in_default-clause-found
returns-in_default-clause-found c =
    let turns = c.args.turns.now in
    let arrays = c.args.layout.now in
    let least = overlap arrays (cells_of arrays) (team_works turns.var.now turns.low turns.high c.args.members (sequence_work (sequence_of c.args.phase.now)) (vars_of c.args.scope.now)) in
    keep_none c.args.self.now.found c.args.line least (c.is_none.ensures ∙ ap not c.if-is_none.true) (sym c.overlap_of_members.ensures.found ∙ c.in_default.is)

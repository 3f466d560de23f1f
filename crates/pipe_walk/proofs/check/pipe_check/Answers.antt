use Rattle.std.proofs.Common.{◌≡◌, [], Some, None, ap, sym, subst, ◌∙◌}
use Rattle.array_tree.specs.declared.tree.Program.{Program}
use Rattle.array_tree.specs.Trees.{program_of}
use Rattle.array_meaning.specs.Stores.{Arrays, arrays_of}
use Rattle.array_meaning.specs.Sites.{sequence_sites}
use Rattle.array_meaning.specs.Accepted.{IsAccepted}
use Rattle.phase_order.specs.Crossings.{HasNoCrossings}
use Rattle.pipe_walk.specs.FirstCrossing.{site_crossing, IsFaultOf}
use Rattle.site_walk.specs.Firsts.{first_of}
use Rattle.pipe_walk.proofs.FitLemmas.{none_crosses, fault_noted, accepted_sized}
use Rattle.pipe_walk.proofs.check.pipe_check.Goals as goal

pub new-requires : goal.new-requires
new-requires c =
    accepted_sized (program_of c.program-program.result.now)
    (subst (λ (p : Program). IsAccepted (program_of p)) (sym c.program-program.ensures.same) c.program-program.ensures.kept.accepted)

pub returns-in-Some-clause-fault : goal.returns-in-Some-clause-fault
returns-in-Some-clause-fault c =
    let program = program_of c.program-program.result.now in
    let accepted = subst (λ (p : Program). IsAccepted (program_of p)) (sym c.program-program.ensures.same) c.program-program.ensures.kept.accepted in
    let sites = sequence_sites program.body [] in
    let found : first_of (site_crossing (arrays_of program.arrays)) sites ≡ Some c.in-Some.fault
    = ap (λ (arrays : Arrays). first_of (site_crossing arrays) sites) (sym c.in-Ok.ensures) ∙ sym c.seek_block.ensures.found ∙ c.in-Some.is in
    subst (λ (p : Program). IsFaultOf (program_of p) c.in-Some.fault) c.program-program.ensures.same (fault_noted program accepted c.in-Some.fault found)

pub returns-clause-ok : goal.returns-clause-ok
returns-clause-ok c =
    let program = program_of c.program-program.result.now in
    let accepted = subst (λ (p : Program). IsAccepted (program_of p)) (sym c.program-program.ensures.same) c.program-program.ensures.kept.accepted in
    let sites = sequence_sites program.body [] in
    let found : first_of (site_crossing (arrays_of program.arrays)) sites ≡ None
    = ap (λ (arrays : Arrays). first_of (site_crossing arrays) sites) (sym c.in-Ok.ensures) ∙ sym c.seek_block.ensures.found ∙ c.in-None.is in
    subst (λ (p : Program). HasNoCrossings (program_of p)) c.program-program.ensures.same (none_crosses program accepted found)

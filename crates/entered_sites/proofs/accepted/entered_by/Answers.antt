use Rattle.std.proofs.Common.{◌∙◌, length, sym, ap, subst}
use Rattle.std.proofs.lemmas.Result.{IfOk-weaker}
use Rattle.array_tree.specs.declared.tree.Program.{Program}
use Rattle.array_tree.specs.Trees.{program_of, declarations_of}
use Rattle.array_meaning.specs.Stores.{arrays_of, AreSized}
use Rattle.array_meaning.specs.Plans.{sites_in}
use Rattle.array_meaning.specs.Entered.{entered_of}
use Rattle.array_meaning.proofs.InsideLemmas.{sized_in_range}
use Rattle.array_meaning.proofs.PlanLemmas.{sequence_length}
use Rattle.transfer_table.specs.Plan.{Plan}
use Rattle.entered_laws.proofs.Parts.{every_site_has_a_flag}
use Rattle.entered_sites.proofs.accepted.entered_by.Goals as goal

pub entered-requires-clause-sized : goal.entered-requires-clause-sized
entered-requires-clause-sized c =
    subst (λ (p : Program). AreSized (arrays_of (declarations_of p.arrays))) (sym c.program.ensures.same)
    (sized_in_range (program_of c.args.accepted.now.program) c.program.ensures.kept.accepted.ranges)

pub entered-requires-clause-sites : goal.entered-requires-clause-sites
entered-requires-clause-sites c =
    let kept = c.program.ensures.kept in
    c.sites.ensures.same ∙ ap (λ (p : Plan). length p.parents) c.plan.ensures.same ∙ ap length kept.parents
    ∙ sequence_length (program_of c.args.accepted.now.program).body 0 1
    ∙ ap (λ (p : Program). sites_in (program_of p).body) (sym c.program.ensures.same)

pub returns-clause-each : goal.returns-clause-each
returns-clause-each c =
    let program = program_of c.args.accepted.now.program in
    IfOk-weaker c.entered.result _ _
    (λ list is. ap length is ∙ ap (λ (p : Program). length (entered_of (program_of p))) c.program.ensures.same
    ∙ every_site_has_a_flag program c.args.accepted.now.plan c.program.ensures.kept.parents)
    c.entered.ensures

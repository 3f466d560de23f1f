use Rattle.std.proofs.Common.{◌∙◌, length, ap}
use Rattle.std.proofs.lemmas.Result.{IfOk-weaker}
use Rattle.array_tree.specs.Trees.{program_of}
use Rattle.array_meaning.proofs.PlanLemmas.{sequence_length}
use Rattle.entered_laws.proofs.Parts.{every_site_has_a_flag}
use Rattle.picture_call.proofs.picture.entered_by_plan.Goals as goal

pub entered-requires-clause-sites : goal.entered-requires-clause-sites
entered-requires-clause-sites c =
    c.sites.ensures.same ∙ ap length c.requires.parents ∙ sequence_length (program_of c.args.program.now).body 0 1

pub returns-clause-each : goal.returns-clause-each
returns-clause-each c =
    IfOk-weaker c.entered.result _ _
    (λ list is. ap length is ∙ every_site_has_a_flag (program_of c.args.program.now) c.args.plan.now c.requires.parents)
    c.entered.ensures

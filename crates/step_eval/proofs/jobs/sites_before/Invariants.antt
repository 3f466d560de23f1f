use Rattle.std.proofs.Common.{◌≡◌, ◌*◌}
use Rattle.array_tree.specs.Trees.{sequences_of}
use Rattle.array_meaning.specs.Work.{span}
use Rattle.site_counts.specs.Capped.{capped}
use Rattle.step_eval.specs.Nests.{sites_before}
use Rattle.step_eval.proofs.jobs.sites_before.Given as goal

abbrev pub invariant-loop-body : goal.invariant-loop-body
invariant-loop-body l = l.sites ≡ capped (span l.low l.high * sites_before (sequences_of l.phases) l.body-index)

use Rattle.job_machines.proofs.Counts.{passes_are_within}
use Rattle.job_machines.proofs.site_passes.passes_are_within.Goals as goal

pub returns : goal.returns
returns c = passes_are_within

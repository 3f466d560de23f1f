use Rattle.job_machines.proofs.Parts.{jobs_are_parts}
use Rattle.job_machines.proofs.site_parts.jobs_are_parts.Goals as goal

pub returns : goal.returns
returns c = jobs_are_parts

use Rattle.job_machines.proofs.Parts.{constructs_are_parts}
use Rattle.job_machines.proofs.site_parts.constructs_are_parts.Goals as goal

pub returns : goal.returns
returns c = constructs_are_parts

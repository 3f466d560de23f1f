use Rattle.job_machines.proofs.Parts.{bodies_are_parts}
use Rattle.job_machines.proofs.site_parts.bodies_are_parts.Goals as goal

pub returns : goal.returns
returns c = bodies_are_parts

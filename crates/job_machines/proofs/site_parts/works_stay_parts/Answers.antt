use Rattle.job_machines.proofs.Parts.{works_stay_parts}
use Rattle.job_machines.proofs.site_parts.works_stay_parts.Goals as goal

pub returns : goal.returns
returns c = works_stay_parts

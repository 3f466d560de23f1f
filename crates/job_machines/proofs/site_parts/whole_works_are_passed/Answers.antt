use Rattle.job_machines.proofs.Parts.{whole_works_are_passed}
use Rattle.job_machines.proofs.site_parts.whole_works_are_passed.Goals as goal

pub returns : goal.returns
returns c = whole_works_are_passed

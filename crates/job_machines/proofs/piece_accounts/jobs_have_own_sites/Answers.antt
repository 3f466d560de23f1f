use Rattle.job_machines.proofs.Laid.{jobs_have_own_sites}
use Rattle.job_machines.proofs.piece_accounts.jobs_have_own_sites.Goals as goal

pub returns : goal.returns
returns c = jobs_have_own_sites

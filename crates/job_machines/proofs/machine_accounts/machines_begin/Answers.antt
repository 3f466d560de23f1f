use Rattle.job_machines.proofs.Going.{machines_begin}
use Rattle.job_machines.proofs.machine_accounts.machines_begin.Goals as goal

pub returns : goal.returns
returns c = machines_begin

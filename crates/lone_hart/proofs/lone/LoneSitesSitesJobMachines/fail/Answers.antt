use Rattle.std.proofs.Common.{subst}
use Rattle.lone_hart.specs.Sites.{IsOwed}
use Rattle.lone_hart.proofs.lone.LoneSitesSitesJobMachines.fail.Goals as goal

pub fail_in_pool-requires : goal.fail_in_pool-requires
fail_in_pool-requires g c = let owed = subst (λ s. IsOwed s c.requires.0) c.in-Pool.is c.requires.1 in (c.requires.0, owed.1, c.requires.3)

pub fail_in_team-requires : goal.fail_in_team-requires
fail_in_team-requires g c = let owed = subst (λ s. IsOwed s c.requires.0) c.in-Team.is c.requires.1 in (c.requires.0, owed, c.requires.3)

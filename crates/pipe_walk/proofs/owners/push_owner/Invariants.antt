use Rattle.std.proofs.Common.{◌≡◌, ◌++◌, replicate}
use Rattle.pipe_walk.proofs.owners.push_owner.Given as goal

abbrev pub invariant-loop : goal.invariant-loop
invariant-loop l = l.owners.items ≡ l.fn.owners.items ++ replicate l.counter l.number

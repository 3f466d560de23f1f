use Rattle.std.proofs.Common.{ℕ, List, length}
use Rattle.forkjoin_sched.proofs.Offered.{HasOffered}
use Rattle.forkjoin_sched.proofs.offering.offer_jobs.Given as goal

abbrev pub invariant-loop-place : goal.invariant-loop-place
invariant-loop-place g l = (places : List ℕ) × HasOffered l.site l.level (length l.slots) l.place l.initial.pool l.initial.rows places l.pool l.rows

use Rattle.std.proofs.Common.{◌≡◌, map, replicate, vec_len, true}
use Rattle.deque_rows.specs.declared.ends.HomeEnd.{HomeEnd}
use Rattle.deque_rows.specs.Account.{blank}
use Rattle.deque_rows.proofs.Places.{home_log_of}
use Rattle.deque_rows.proofs.making.home.Given as goal

-- As many new ends as counted, each with this capacity.
abbrev pub invariant-loop : goal.invariant-loop
invariant-loop l = (vec_len l.own ≡ l.counter) × (map home_log_of l.own.items ≡ replicate l.counter (blank 64 true))
    × (map (λ (h : HomeEnd). h.made) l.own.items ≡ replicate l.counter l.room)

use Rattle.std.proofs.Common.{◌≡◌, vec_len, length}
use Rattle.lithe_c.proofs.making.all.Given as goal

-- A block for each seat so far.
abbrev pub invariant-loop-seat : goal.invariant-loop-seat
invariant-loop-seat l = vec_len l.boxes ≡ length l.yielded

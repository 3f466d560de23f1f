use Rattle.std.proofs.Common.{◌≡◌, ◌++◌, take, drop}
use Rattle.std.specs.VecDeque.{deque_len, deque_capacity}
use Rattle.turn_sched.specs.Ring.{has_place, with_more}
use Rattle.turn_sched.proofs.ring.add_to_place.Given as goal

-- No place below this one is the child's.
abbrev pub invariant-loop-at : goal.invariant-loop-at
invariant-loop-at l = record {
  same : l.places.items ≡ l.initial.places.items;
  len : deque_len l.places ≡ deque_len l.initial.places;
  capacity : deque_capacity l.places ≡ deque_capacity l.initial.places;
  has : has_place l.child (drop l.at l.places.items) ≡ has_place l.child l.initial.places.items;
  more : take l.at l.places.items ++ with_more l.child l.count (drop l.at l.places.items) ≡ with_more l.child l.count l.initial.places.items;
}

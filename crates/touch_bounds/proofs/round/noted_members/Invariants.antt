use Rattle.std.proofs.Common.{◌-◌}
use Rattle.array_tree.specs.Trees.{sequence_of}
use Rattle.array_meaning.specs.Work.{sequence_work}
use Rattle.array_meaning.specs.Members.{member_works, team_works}
use Rattle.array_meaning.specs.Stores.{Vars}
use Rattle.touch_bounds.specs.Ranges.{bounds_of, AreWithin}
use Rattle.touch_bounds.proofs.RoundLemmas.{Completes}
use Rattle.touch_bounds.proofs.round.noted_members.Given as goal

abbrev pub invariant-loop-member : goal.invariant-loop-member
invariant-loop-member l =
    (vars : Vars) → AreWithin (bounds_of l.ranges) vars →
    Completes l.layout l.pieces.items (member_works l.var l.low l.high l.members (sequence_work (sequence_of l.phase)) l.member (l.members - l.member) vars)
    (team_works l.var l.low l.high l.members (sequence_work (sequence_of l.phase)) vars)

use Rattle.std.proofs.Common.{◌≡◌, ◌-◌}
use Rattle.array_tree.specs.Trees.{sequence_of}
use Rattle.array_meaning.specs.Work.{sequence_work}
use Rattle.array_meaning.specs.Members.{member_works}
use Rattle.array_eval.specs.Views.{vars_of}
use Rattle.site_walk.specs.Inside.Marks.{with_pieces}
use Rattle.site_walk.proofs.round.mark_members.Given as goal

abbrev pub invariant-loop-member : goal.invariant-loop-member
invariant-loop-member l =
    with_pieces l.layout l.member (member_works l.turns.var.now l.turns.low l.turns.high l.members (sequence_work (sequence_of l.phase)) l.member (l.members - l.member) (vars_of l.scope)) l.table
    ≡ with_pieces l.layout 0 (member_works l.turns.var.now l.turns.low l.turns.high l.members (sequence_work (sequence_of l.phase)) 0 l.members (vars_of l.scope)) l.fn.table

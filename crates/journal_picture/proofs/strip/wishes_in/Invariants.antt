use Rattle.std.proofs.Common.{◌≡◌, ◌≤◌, ◌*◌}
use Rattle.journal_picture.specs.Strip.{unmet_up_to, wishing_up_to}
use Rattle.journal_picture.proofs.strip.wishes_in.Given as goal

-- The wishes of the sites so far, and whether a child of the base among them has one.
abbrev pub invariant-loop-i : goal.invariant-loop-i
invariant-loop-i l =
    (l.total ≡ unmet_up_to l.board.state l.i) × (l.total ≤ 255 * l.i)
    × (l.some ≡ wishing_up_to l.board.plan l.board.state l.i)
    × (l.i ≤ l.fn.wishing.high)

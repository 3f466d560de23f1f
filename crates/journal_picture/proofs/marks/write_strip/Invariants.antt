use Rattle.std.proofs.Common.{◌≡◌, ◌++◌, drop, string_bytes}
use Rattle.transfer_table.specs.Table.{first_state}
use Rattle.journal_picture.specs.Strip.{HasWishesWithin}
use Rattle.journal_picture.specs.SvgMarks.{strip_svg}
use Rattle.journal_picture.specs.Views.{view_of}
use Rattle.journal_picture.proofs.marks.write_strip.Given as goal

-- The plan stays; the text so far, and the strip from here on; where the wishes are.
abbrev pub invariant-loop-k : goal.invariant-loop-k
invariant-loop-k l =
    (l.board.plan ≡ l.drawing.board.plan)
    × (string_bytes l.text ++ strip_svg (view_of l.drawing) l.board.state l.k (drop l.k l.drawing.list.now)
    ≡ string_bytes l.fn.text ++ strip_svg (view_of l.drawing) (first_state l.drawing.board.plan) 0 l.drawing.list.now)
    × HasWishesWithin l.board.plan l.board.state l.wishing.low l.wishing.high

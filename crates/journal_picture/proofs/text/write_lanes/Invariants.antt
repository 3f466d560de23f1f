use Rattle.std.proofs.Common.{◌≡◌, ◌++◌, drop, string_bytes}
use Rattle.journal_picture.specs.TextPicture.{lanes_text}
use Rattle.journal_picture.proofs.text.write_lanes.Given as goal

-- The text so far, and the lines of the other harts.
abbrev pub invariant-loop-hart : goal.invariant-loop-hart
invariant-loop-hart l =
    string_bytes l.text ++ lanes_text l.at l.hart (drop l.hart l.lanes) ≡ string_bytes l.fn.text ++ lanes_text l.at 0 l.lanes

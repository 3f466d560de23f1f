use Rattle.std.proofs.Common.{◌≡◌, ◌≤◌, ◌<◌, drop, length}
use Rattle.journal_text.specs.Reading.{lines_of}
use Rattle.picture_call.proofs.picture.behind.Given as goal

-- The rest is behind the lines that were cut off.
abbrev pub invariant-loop-i : goal.invariant-loop-i
invariant-loop-i l = record {
  same : lines_of l.rest ≡ drop l._i (lines_of l.text);
  more : l._i < length (lines_of l.text);
  short : length l.rest ≤ length l.text;
}

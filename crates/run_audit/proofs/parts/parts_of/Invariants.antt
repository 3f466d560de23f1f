use Rattle.std.proofs.Common.{◌≡◌, ◌-◌, ◌≤◌, length, take, drop}
use Rattle.std.specs.Option.{option_map}
use Rattle.run_audit.specs.Parts.{parts_of, with_front}
use Rattle.run_audit.proofs.parts.parts_of.Given as goal

-- No line so far is a mark.
abbrev pub invariant-loop-line : goal.invariant-loop-line
invariant-loop-line l = record {
  short : length l.rest ≤ length l.text;
  rest : l.rest ≡ drop (length l.text - length l.rest) l.text;
  same : parts_of l.text ≡ option_map (with_front (take (length l.text - length l.rest) l.text)) (parts_of l.rest);
}

abbrev pub decreases-loop-line : goal.decreases-loop-line
decreases-loop-line l = length l.rest

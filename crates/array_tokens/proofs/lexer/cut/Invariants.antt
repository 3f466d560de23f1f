use Rattle.std.proofs.Common.{◌≡◌, ◌+◌, ◌≤◌, length}
use Rattle.array_tokens.specs.Lexemes.{cut, spots, with_tokens}
use Rattle.array_tokens.proofs.lexer.cut.Given as goal

-- The tokens so far, and those of the rest.
abbrev pub invariant-loop-rest : goal.invariant-loop-rest
invariant-loop-rest l = record {
  found : with_tokens (spots l.found.items) (cut 0 l.at l.line l.rest) ≡ cut 0 0 1 l.text;
  place : l.at + length l.rest ≡ length l.text;
  lines : l.line ≤ l.at + 1;
}

abbrev pub decreases-loop-rest : goal.decreases-loop-rest
decreases-loop-rest l = length l.rest

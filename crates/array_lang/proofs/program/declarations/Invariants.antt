use Rattle.std.proofs.Common.{length}
use Rattle.array_tokens.specs.Lexemes.{spots}
use Rattle.array_lang.specs.Parsing.Machine.{declaring, state}
use Rattle.array_lang.specs.Parsing.Reading.{Takes1, declared_all, declaration_list}
use Rattle.array_lang.proofs.program.declarations.Given as goal

-- The declarations so far.
abbrev pub invariant-loop-line : goal.invariant-loop-line
invariant-loop-line l = Takes1 0 (state declaring) (declared_all (declaration_list l.found.items)) (spots l.tokens) (spots l.rest)

abbrev pub decreases-loop-line : goal.decreases-loop-line
decreases-loop-line l = length (spots l.rest)

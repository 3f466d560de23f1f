use Rattle.std.proofs.Common.{◌+◌, ◌*◌, length}
use Rattle.array_tokens.specs.Lexemes.{spots}
use Rattle.array_lang.specs.Parsing.Machine.{statement, state}
use Rattle.array_lang.specs.Parsing.Reading.{Takes1, behind_all, TakesBranches, TakesPhases, statements_of, sequence_list}
use Rattle.array_lang.proofs.statements.+statements.Given as goal

abbrev pub decreases-for_loop : goal.decreases-for_loop
decreases-for_loop l = 4 * length (spots l.tokens.now) + 2

abbrev pub decreases-choice : goal.decreases-choice
decreases-choice l = 4 * length (spots l.tokens.now) + 2

abbrev pub decreases-else_block : goal.decreases-else_block
decreases-else_block l = 4 * length (spots l.tokens.now) + 2

abbrev pub decreases-par : goal.decreases-par
decreases-par l = 4 * length (spots l.tokens.now) + 2

abbrev pub decreases-team : goal.decreases-team
decreases-team l = 4 * length (spots l.tokens.now) + 3

abbrev pub decreases-phases : goal.decreases-phases
decreases-phases l = 4 * length (spots l.tokens.now) + 2

abbrev pub decreases-block : goal.decreases-block
decreases-block l = 4 * length (spots l.tokens.now) + 2

abbrev pub decreases-statements : goal.decreases-statements
decreases-statements l = 4 * length (spots l.tokens.now) + 1

abbrev pub decreases-statement : goal.decreases-statement
decreases-statement l = 4 * length (spots l.tokens.now)

-- The statements so far.
abbrev pub invariant-statements-each : goal.invariant-statements-each
invariant-statements-each l = Takes1 0 (state statement) (behind_all (statements_of l.found.items)) (spots l.tokens) (spots l.rest)

abbrev pub decreases-statements-each : goal.decreases-statements-each
decreases-statements-each l = length (spots l.rest)

-- The branches so far.
abbrev pub invariant-par-each : goal.invariant-par-each
invariant-par-each l = TakesBranches l.line (spots l.tokens) (spots l.rest) (sequence_list l.blocks.items)

abbrev pub decreases-par-each : goal.decreases-par-each
decreases-par-each l = length (spots l.rest)

-- The phases so far.
abbrev pub invariant-phases-each : goal.invariant-phases-each
invariant-phases-each l = TakesPhases (spots l.tokens) (spots l.rest) (sequence_list l.phases.items)

abbrev pub decreases-phases-each : goal.decreases-phases-each
decreases-phases-each l = length (spots l.rest)

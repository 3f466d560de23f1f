use Rattle.std.proofs.Common.{◌+◌, ◌*◌, length}
use Rattle.array_tokens.specs.Lexemes.{spots}
use Rattle.array_tree.specs.Trees.{expression_of}
use Rattle.array_lang.specs.Parsing.Reading.{TakesTerm, TakesSum}
use Rattle.array_lang.proofs.expressions.+expr.Given as goal

abbrev pub decreases-expr : goal.decreases-expr
decreases-expr l = 4 * length (spots l.tokens.now) + 3

abbrev pub decreases-sum : goal.decreases-sum
decreases-sum l = 4 * length (spots l.tokens.now) + 2

abbrev pub decreases-term : goal.decreases-term
decreases-term l = 4 * length (spots l.tokens.now) + 1

abbrev pub decreases-factor : goal.decreases-factor
decreases-factor l = 4 * length (spots l.tokens.now)

abbrev pub decreases-after_name : goal.decreases-after_name
decreases-after_name l = 4 * length (spots l.tokens.now)

-- The terms so far.
abbrev pub invariant-sum-loop-op : goal.invariant-sum-loop-op
invariant-sum-loop-op l = TakesSum 2 (spots l.tokens) (spots l.rest) (expression_of l.left)

abbrev pub decreases-sum-loop-op : goal.decreases-sum-loop-op
decreases-sum-loop-op l = length (spots l.rest)

-- The factors so far.
abbrev pub invariant-term-loop-op : goal.invariant-term-loop-op
invariant-term-loop-op l = TakesTerm 3 (spots l.tokens) (spots l.rest) (expression_of l.left)

abbrev pub decreases-term-loop-op : goal.decreases-term-loop-op
decreases-term-loop-op l = length (spots l.rest)

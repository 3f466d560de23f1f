-- The definitions that a statement of the tree stands for, kind by kind.
use Rattle.std.proofs.Common.{◌≡◌, ℕ, List, sym, ap, ◌∙◌}
use Rattle.array_tree.specs.declared.tree.Expr.{Expr}
use Rattle.array_tree.specs.declared.tree.Block.{Block}
use Rattle.array_tree.specs.declared.tree.Blocks.{Blocks}
use Rattle.array_tree.specs.declared.tree.Stmt.TheVariants.{Assign, If, Par, rolls-Assign, rolls-If, rolls-Par}
use Rattle.array_tree.specs.declared.tree.Stmt.TheFolds.{fold-roll-Stmt}
use Rattle.array_tree.specs.Trees.{Statement, Sequence, Sequences, statement_of, sequence_of, sequences_of, expression_of, statement_step, block_step, blocks_step}
use Rattle.array_tree.specs.Trees as tree

pub statement-assign : (line : ℕ) (array : List ℕ) (index value : Expr) →
    statement_of (Assign line array index value) ≡ tree.Assign line array (expression_of index) (expression_of value)
statement-assign line array index value =
    ap statement_of (sym (rolls-Assign line array index value))
    ∙ fold-roll-Stmt Statement Sequence Sequences statement_step block_step blocks_step _

pub statement-if : (line : ℕ) (cond : Expr) (left right : Block) →
    statement_of (If line cond left right) ≡ tree.If line (expression_of cond) (sequence_of left) (sequence_of right)
statement-if line cond left right =
    ap statement_of (sym (rolls-If line cond left right))
    ∙ fold-roll-Stmt Statement Sequence Sequences statement_step block_step blocks_step _

pub statement-par : (line : ℕ) (branches : Blocks) → statement_of (Par line branches) ≡ tree.Par line (sequences_of branches)
statement-par line branches =
    ap statement_of (sym (rolls-Par line branches))
    ∙ fold-roll-Stmt Statement Sequence Sequences statement_step block_step blocks_step _

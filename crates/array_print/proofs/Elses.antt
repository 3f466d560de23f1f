-- The text of an `else` whose block has statements.
use Rattle.std.proofs.Common.{◌≡◌, ℕ, List, [], ◌∷◌, ◌++◌, map, refl, ap, ◌∙◌}
use Rattle.std.specs.Prelude.{codes}
use Rattle.array_tree.specs.declared.tree.Block.{Block}
use Rattle.array_tree.specs.declared.tree.Stmt.{Stmt}
use Rattle.array_tree.specs.Trees.{sequence, statement_of, sequence_of}
use Rattle.array_tree.proofs.Views.{sequence_of-statements}
use Rattle.array_print.specs.Texts.{else_text}

else_items : (statements : List Stmt) (text : List ℕ) → (statements ≡ [] → ⊥) → else_text (sequence (map statement_of statements)) text ≡ codes " else" ++ text
else_items [] text h = absurd (h refl)
else_items (s ∷ statements) text h = refl

pub else_some : (b : Block) (text : List ℕ) → (b.statements.items ≡ [] → ⊥) → else_text (sequence_of b) text ≡ codes " else" ++ text
else_some b text h = ap (λ p. else_text p text) (sequence_of-statements b) ∙ else_items b.statements.items text h

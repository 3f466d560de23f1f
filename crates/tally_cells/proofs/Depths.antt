-- From depth 2 on, the depth makes no difference for the faults of a statement.
use Rattle.std.proofs.Common.{◌≡◌, ℕ, ◌+◌, ◌≤◌, Bool, cond, Some, None, refl, ap, ◌∙◌, arith}
use Rattle.std.specs.Prelude.{◌&&◌, ◌||◌, not, nat_lt}
use Rattle.std.specs.Option.{option_or}
use Rattle.std.proofs.lemmas.Bool.Decides.{nat_tests}
use Rattle.array_tree.specs.Trees.{Statement, Assign, For, If, Par, Team, Sequence, ended, followed, Sequences, no_more, beside}
use Rattle.spread_laws.specs.Adds.{mentions_sum, is_add}
use Rattle.spread_laws.specs.Faults.{is_unshaped, unshaped, statement_unshaped, any_unshaped}

tests_same : (d e : ℕ) (m a : Bool) → 2 ≤ d → 2 ≤ e → (nat_lt 0 d && (m && (not a || nat_lt 1 d))) ≡ (nat_lt 0 e && (m && (not a || nat_lt 1 e)))
tests_same d e m a p q = grind (arith, nat_tests)

module _ (d e : ℕ) where
  same_test : (s : Statement) → 2 ≤ d → 2 ≤ e → is_unshaped d s ≡ is_unshaped e s
  same_test s p q = tests_same d e (mentions_sum s) (is_add s) p q

mutual
  statement_same : (d e : ℕ) (s : Statement) → 2 ≤ d → 2 ≤ e → statement_unshaped d s ≡ statement_unshaped e s
  statement_same d e (Assign line x i v) p q = ap (λ b. cond b (Some line) None) (same_test d e (Assign line x i v) p q)
  statement_same d e (For line var low high body) p q = sequence_same d e body p q
  statement_same d e (If line test a b) p q =
      ap (λ t. cond t (Some line) (option_or (unshaped d a) (unshaped d b))) (same_test d e (If line test a b) p q)
      ∙ ap (λ o. cond (is_unshaped e (If line test a b)) (Some line) (option_or o (unshaped d b))) (sequence_same d e a p q)
      ∙ ap (λ o. cond (is_unshaped e (If line test a b)) (Some line) (option_or (unshaped e a) o)) (sequence_same d e b p q)
  statement_same d e (Par line branches) p q = blocks_same (d + 1) (e + 1) branches (omega arith) (omega arith)
  statement_same d e (Team line var low high members phases) p q = blocks_same (d + 1) (e + 1) phases (omega arith) (omega arith)

  sequence_same : (d e : ℕ) (s : Sequence) → 2 ≤ d → 2 ≤ e → unshaped d s ≡ unshaped e s
  sequence_same d e ended p q = refl
  sequence_same d e (followed first rest) p q =
      ap (λ o. option_or o (unshaped d rest)) (statement_same d e first p q) ∙ ap (option_or (statement_unshaped e first)) (sequence_same d e rest p q)

  pub blocks_same : (d e : ℕ) (bs : Sequences) → 2 ≤ d → 2 ≤ e → any_unshaped d bs ≡ any_unshaped e bs
  blocks_same d e no_more p q = refl
  blocks_same d e (beside first rest) p q =
      ap (λ o. option_or o (any_unshaped d rest)) (sequence_same d e first p q) ∙ ap (option_or (unshaped e first)) (blocks_same d e rest p q)

-- A pass through the steps of a program from left to right with a state: a run, a search of the walk, or a table of
-- marks. Each lemma splits off the first step, as the loops over the tree's lists do.
use Rattle.std.proofs.Common.{◌≡◌, ℕ, suc, ◌+◌, ◌<◌, List, ◌∷◌, map, length, drop, get_or, drop-cons, add-one, ℤ, pos, ◌+ℤ◌, ◌<ℤ◌, ap, ◌∙◌}
use Rattle.array_tree.specs.declared.tree.Stmt.{Stmt}
use Rattle.array_tree.specs.declared.tree.Block.{Block}
use Rattle.array_tree.specs.Trees.{statement_of, sequence_of, sequence, sequences}
use Rattle.array_meaning.specs.Stores.{Vars}
use Rattle.array_meaning.specs.Steps.{Steps, followed_by}
use Rattle.array_meaning.specs.Work.{Work, loop, statement_work, sequence_work, branches_work, phases_work}
use Rattle.array_meaning.proofs.StepLemmas.{loop_next}

module _ (S : Type 0) (run : Steps → S → S) (more : (a b : Steps) (s : S) → run (followed_by a b) s ≡ run b (run a s)) where
  -- The statement at index i, and those after it.
  pub statements_left : (ss : List Stmt) (i : ℕ) (d : Stmt) (vars : Vars) (s : S) → i < length ss →
      run (sequence_work (sequence (map statement_of (drop i ss))) vars) s
      ≡ run (sequence_work (sequence (map statement_of (drop (i + 1) ss))) vars) (run (statement_work (statement_of (get_or ss i d)) vars) s)
  statements_left ss i d vars s h =
      ap (λ rest. run (sequence_work (sequence (map statement_of rest)) vars) s) (drop-cons ss i d h)
      ∙ rw add-one (more (statement_work (statement_of (get_or ss i d)) vars) (sequence_work (sequence (map statement_of (drop (suc i) ss))) vars) s)

  -- The branch at index i, and those after it.
  pub branches_left : (bs : List Block) (i : ℕ) (d : Block) (vars : Vars) (s : S) → i < length bs →
      run (branches_work (sequences (map sequence_of (drop i bs))) vars) s
      ≡ run (branches_work (sequences (map sequence_of (drop (i + 1) bs))) vars) (run (sequence_work (sequence_of (get_or bs i d)) vars) s)
  branches_left bs i d vars s h =
      ap (λ rest. run (branches_work (sequences (map sequence_of rest)) vars) s) (drop-cons bs i d h)
      ∙ rw add-one (more (sequence_work (sequence_of (get_or bs i d)) vars) (branches_work (sequences (map sequence_of (drop (suc i) bs))) vars) s)

  -- The phase at index i, and those after it.
  pub phases_left : (bs : List Block) (i : ℕ) (d : Block) (var : List ℕ) (low high : ℤ) (vars : Vars) (s : S) → i < length bs →
      run (phases_work (sequences (map sequence_of (drop i bs))) var low high vars) s
      ≡ run (phases_work (sequences (map sequence_of (drop (i + 1) bs))) var low high vars) (run (loop var low high (sequence_work (sequence_of (get_or bs i d))) vars) s)
  phases_left bs i d var low high vars s h =
      ap (λ rest. run (phases_work (sequences (map sequence_of rest)) var low high vars) s) (drop-cons bs i d h)
      ∙ rw add-one (more (loop var low high (sequence_work (sequence_of (get_or bs i d))) vars) (phases_work (sequences (map sequence_of (drop (suc i) bs))) var low high vars) s)

  -- The turn of number x, and those after it.
  pub turns_left : (var : List ℕ) (x high : ℤ) (body : Work) (vars : Vars) (s : S) → x <ℤ high →
      run (loop var x high body vars) s ≡ run (loop var (x +ℤ pos 1) high body vars) (run (body ((var, x) ∷ vars)) s)
  turns_left var x high body vars s h =
      ap (λ steps. run steps s) (loop_next var x high body vars h)
      ∙ more (body ((var, x) ∷ vars)) (loop var (x +ℤ pos 1) high body vars) s

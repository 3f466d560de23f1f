-- Comparisons of lists of children, one by one.
use Rattle.std.proofs.Common.{◌≡◌, ℕ, ◌&&◌, Bool, true, false, List, [], ◌∷◌, ◌+◌, ◌<◌, length, map, drop, get_or, refl, arith, add-one, vec_len}
use Rattle.std.proofs.Math.Seq.{drop-cons}
use Rattle.std.proofs.lemmas.Grind.{common_steps}
use Rattle.array_tree.specs.declared.tree.Stmt.{Stmt}
use Rattle.array_tree.specs.declared.tree.Block.{Block}
use Rattle.array_tree.specs.declared.tree.Blocks.{Blocks}
use Rattle.array_tree.specs.declared.tree.Stmt.TheViews.{out-Block, out-Blocks}
use Rattle.array_tree.specs.declared.tree.Stmt.{the_lemmas}
use Rattle.array_tree.specs.Trees.{sequences_of, sequence, sequences, statement_of, sequence_of}
use Rattle.array_tree.specs.Equal.{statement_eq, sequence_eq, sequences_eq}

and_false : (a : Bool) → (a && false) ≡ false
and_false true = refl
and_false false = refl

-- Lists of different lengths differ.
pub statements_uneven : (xs ys : List Stmt) → (length xs ≡ length ys → ⊥) → sequence_eq (sequence (map statement_of xs)) (sequence (map statement_of ys)) ≡ false
statements_uneven [] [] h = absurd (h refl)
statements_uneven [] (y ∷ ys) h = refl
statements_uneven (x ∷ xs) [] h = refl
statements_uneven (x ∷ xs) (y ∷ ys) h =
    let rest : sequence_eq (sequence (map statement_of xs)) (sequence (map statement_of ys)) ≡ false =
    statements_uneven xs ys (λ e. h (omega arith)) in
    rw rest (and_false (statement_eq (statement_of x) (statement_of y)))

pub blocks_uneven : (xs ys : List Block) → (length xs ≡ length ys → ⊥) → sequences_eq (sequences (map sequence_of xs)) (sequences (map sequence_of ys)) ≡ false
blocks_uneven [] [] h = absurd (h refl)
blocks_uneven [] (y ∷ ys) h = refl
blocks_uneven (x ∷ xs) [] h = refl
blocks_uneven (x ∷ xs) (y ∷ ys) h =
    let rest : sequences_eq (sequences (map sequence_of xs)) (sequences (map sequence_of ys)) ≡ false =
    blocks_uneven xs ys (λ e. h (omega arith)) in
    rw rest (and_false (sequence_eq (sequence_of x) (sequence_of y)))

statements_of : (b : Block) → sequence_of b ≡ sequence (map statement_of (out-Block b).statements.items)
statements_of b = search the_lemmas

blocks_of : (b : Blocks) → sequences_of b ≡ sequences (map sequence_of (out-Blocks b).blocks.items)
blocks_of b = search the_lemmas

pub block_uneven : (a b : Block) → (vec_len (out-Block a).statements ≡ vec_len (out-Block b).statements → ⊥) → sequence_eq (sequence_of a) (sequence_of b) ≡ false
block_uneven a b h =
    rw (statements_of a, statements_of b)
    (statements_uneven (out-Block a).statements.items (out-Block b).statements.items (λ e. h (grind (arith, common_steps))))

pub sides_uneven : (a b : Blocks) → (vec_len (out-Blocks a).blocks ≡ vec_len (out-Blocks b).blocks → ⊥) → sequences_eq (sequences_of a) (sequences_of b) ≡ false
sides_uneven a b h =
    rw (blocks_of a, blocks_of b)
    (blocks_uneven (out-Blocks a).blocks.items (out-Blocks b).blocks.items (λ e. h (grind (arith, common_steps))))

-- If two blocks are equal, the rest of the lists decides.
pub blocks_step : (xs ys : List Block) (i : ℕ) (x y : Block) → i < length xs → i < length ys → x ≡ get_or xs i x → y ≡ get_or ys i y → true ≡ sequence_eq (sequence_of x) (sequence_of y) → sequences_eq (sequences (map sequence_of (drop i xs))) (sequences (map sequence_of (drop i ys))) ≡ sequences_eq (sequences (map sequence_of (drop (i + 1) xs))) (sequences (map sequence_of (drop (i + 1) ys)))
blocks_step xs ys i x y k l e f h =
    rw (drop-cons xs i x, drop-cons ys i y, ← e, ← f, ← h, add-one) refl

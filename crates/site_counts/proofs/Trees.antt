-- The lists of a tree.
use Rattle.std.proofs.Common.{◌≡◌, List, [], ◌∷◌, length, map, refl, arith}
use Rattle.array_tree.specs.declared.tree.Block.{Block}
use Rattle.array_tree.specs.Trees.{sequence_of, sequences}
use Rattle.array_meaning.specs.Limits.{count_of}

pub count_of-sequences : (bs : List Block) → count_of (sequences (map sequence_of bs)) ≡ length bs
count_of-sequences [] = refl
count_of-sequences (b ∷ bs) = omega (arith, count_of-sequences bs)

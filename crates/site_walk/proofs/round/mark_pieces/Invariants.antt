use Rattle.std.proofs.Common.{◌≡◌, drop, map}
use Rattle.array_tree.specs.Trees.{sequence_of, sequences, sequences_of}
use Rattle.array_meaning.specs.Sites.{branch_works}
use Rattle.array_eval.specs.Views.{vars_of}
use Rattle.site_walk.specs.Inside.Marks.{with_pieces}
use Rattle.site_walk.proofs.round.mark_pieces.Given as goal

abbrev pub invariant-loop-piece : goal.invariant-loop-piece
invariant-loop-piece l =
    with_pieces l.layout l.piece (branch_works (sequences (map sequence_of (drop l.piece l.branch-items))) (vars_of l.scope)) l.table
    ≡ with_pieces l.layout 0 (branch_works (sequences_of l.branches) (vars_of l.scope)) l.fn.table

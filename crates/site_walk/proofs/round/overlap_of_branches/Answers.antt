use Rattle.std.proofs.Common.{cond, ◌<◌, length, arith, None, ap, sym, subst, ◌∙◌}
use Rattle.std.proofs.lemmas.Grind.{common_steps}
use Rattle.array_tree.specs.Trees.{sequences_of}
use Rattle.array_tree.specs.declared.tree.Blocks.{out-Blocks}
use Rattle.array_tree.proofs.Views.{sequences_of-blocks}
use Rattle.array_meaning.specs.Stores.{cells_of}
use Rattle.array_meaning.specs.Overlap.{first_from, overlap}
use Rattle.array_meaning.specs.Sites.{branch_works}
use Rattle.array_eval.specs.Views.{vars_of}
use Rattle.site_walk.specs.Inside.Touched.{clashes}
use Rattle.site_walk.specs.Inside.Marks.{with_pieces, done_at, HasPlaces, cleared}
use Rattle.site_walk.proofs.PieceLemmas.{least_overlap, pieces_keep_places, cleared_places}
use Rattle.site_walk.proofs.AloneLemmas.{branches_alone}
use Rattle.site_walk.proofs.SettledLemmas.{apart_overlap}
use Rattle.touch_bounds.proofs.RangeLemmas.{fixed_within}
use Rattle.site_walk.proofs.round.overlap_of_branches.Goals as goal

pub returns-clause-places : goal.returns-clause-places
returns-clause-places c =
    let arrays = c.args.layout.now in
    let pieces = branch_works (sequences_of c.args.branches.now) (vars_of c.args.scope.now) in
    let before = c.args.table.now in
    subst (HasPlaces arrays) (sym (c.mark_pieces.ensures ∙ ap (with_pieces arrays 0 pieces) c.clear.ensures))
    (pieces_keep_places arrays 0 pieces (cleared before) (cleared_places arrays before c.requires.places))

pub returns-clause-found : goal.returns-clause-found
returns-clause-found c =
    let arrays = c.args.layout.now in
    let pieces = branch_works (sequences_of c.args.branches.now) (vars_of c.args.scope.now) in
    c.least_overlap.ensures.least
    ∙ ap (λ t. cond t.suspect (first_from (λ cell. clashes (done_at arrays t cell)) 0 (cells_of arrays)) None)
    (c.mark_pieces.ensures ∙ ap (with_pieces arrays 0 pieces) c.clear.ensures)
    ∙ least_overlap arrays pieces c.args.table.now c.requires.places

pub returns-then-len-lt2-clause-found : goal.returns-then-len-lt2-clause-found
returns-then-len-lt2-clause-found c =
    let arrays = c.args.layout.now in
    let vars = vars_of c.args.scope.now in
    let branches = (out-Blocks c.args.branches.now).blocks.items in
    let counted = c.len.ensures in
    let few = c.if-len-lt2.true in
    let alone : length branches < 2 = grind (arith, common_steps) in
    sym (ap (λ bs. overlap arrays (cells_of arrays) (branch_works bs vars)) (sequences_of-blocks c.args.branches.now)
    ∙ branches_alone arrays (cells_of arrays) branches vars alone)

pub returns-then-branches_are_apart-clause-found : goal.returns-then-branches_are_apart-clause-found
returns-then-branches_are_apart-clause-found c =
    let arrays = c.args.layout.now in
    sym (apart_overlap arrays (cells_of arrays) (branch_works (sequences_of c.args.branches.now) (vars_of c.args.scope.now)) (c.if-branches_are_apart.ensures (vars_of c.args.scope.now) (fixed_within (vars_of c.args.scope.now))))

use Rattle.std.proofs.Common.{◌≡◌, cond, None, ap, sym, subst, ◌∙◌, to_z, of_z, w64, arith}
use Rattle.array_meaning.specs.Work.{sequence_work}
use Rattle.std.proofs.lemmas.Int.{ints}
use Rattle.array_tree.specs.Trees.{sequence_of}
use Rattle.array_meaning.specs.Stores.{cells_of}
use Rattle.array_meaning.specs.Overlap.{first_from}
use Rattle.array_meaning.specs.Members.{team_works}
use Rattle.array_eval.specs.Views.{vars_of}
use Rattle.site_walk.specs.Inside.Touched.{clashes}
use Rattle.site_walk.specs.Inside.Marks.{with_pieces, done_at, HasPlaces, cleared}
use Rattle.site_walk.proofs.PieceLemmas.{least_overlap, pieces_keep_places, cleared_places}
use Rattle.site_walk.proofs.AloneLemmas.{members_alone}
use Rattle.site_walk.proofs.SettledLemmas.{apart_overlap}
use Rattle.touch_bounds.proofs.RangeLemmas.{fixed_within}
use Rattle.site_walk.proofs.round.overlap_of_members.Goals as goal

pub returns-clause-places : goal.returns-clause-places
returns-clause-places c =
    let arrays = c.args.layout.now in
    let pieces = team_works c.args.turns.var.now c.args.turns.low c.args.turns.high c.args.members (sequence_work (sequence_of c.args.phase.now)) (vars_of c.args.scope.now) in
    let before = c.args.table.now in
    subst (HasPlaces arrays) (sym (c.mark_members.ensures ∙ ap (with_pieces arrays 0 pieces) c.clear.ensures))
    (pieces_keep_places arrays 0 pieces (cleared before) (cleared_places arrays before c.requires.places))

pub returns-clause-found : goal.returns-clause-found
returns-clause-found c =
    let arrays = c.args.layout.now in
    let pieces = team_works c.args.turns.var.now c.args.turns.low c.args.turns.high c.args.members (sequence_work (sequence_of c.args.phase.now)) (vars_of c.args.scope.now) in
    c.least_overlap.ensures.least
    ∙ ap (λ t. cond t.suspect (first_from (λ cell. clashes (done_at arrays t cell)) 0 (cells_of arrays)) None)
    (c.mark_members.ensures ∙ ap (with_pieces arrays 0 pieces) c.clear.ensures)
    ∙ least_overlap arrays pieces c.args.table.now c.requires.places

pub returns-then-members-lt2-clause-found : goal.returns-then-members-lt2-clause-found
returns-then-members-lt2-clause-found c =
    let arrays = c.args.layout.now in
    sym (members_alone arrays (cells_of arrays) c.args.turns.var.now c.args.turns.low c.args.turns.high c.args.members
    (sequence_work (sequence_of c.args.phase.now)) (vars_of c.args.scope.now) c.if-members-lt2.true)

pub returns-then-members_are_apart-clause-found : goal.returns-then-members_are_apart-clause-found
returns-then-members_are_apart-clause-found c =
    let arrays = c.args.layout.now in
    let cells = cells_of arrays in
    let vars = vars_of c.args.scope.now in
    let var = c.args.turns.var.now in
    let members = c.args.members in
    let body = sequence_work (sequence_of c.args.phase.now) in
    let low = c.args.turns.low in
    let high = c.args.turns.high in
    let lows : to_z w64 (of_z w64 low) ≡ low = omega (arith, ints) in
    let highs : to_z w64 (of_z w64 high) ≡ high = omega (arith, ints) in
    sym (apart_overlap arrays cells (team_works var low high members body vars) ((rw (lows, highs) at c.if-members_are_apart.ensures) vars (fixed_within vars)))

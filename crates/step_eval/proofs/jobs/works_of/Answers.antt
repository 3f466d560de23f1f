use Rattle.std.proofs.Common.{◌≡◌, ◌<◌, length, ap, sym, ◌∙◌, arith, get_or, w64, to_z, of_z, refl, rules}
use Rattle.std.proofs.lemmas.Result.{IfOk-weaker}
use Rattle.std.specs.Prelude.{unsigned_abs}
use Rattle.array_tree.specs.declared.tree.Blocks.{out-Blocks}
use Rattle.array_tree.specs.Trees.{Team, sequence_of, sequences_of, statement_of}
use Rattle.array_tree.proofs.Views.{sequences_of-blocks}
use Rattle.array_meaning.specs.Limits.{count_of}
use Rattle.site_counts.proofs.Trees.{count_of-sequences}
use Rattle.step_eval.specs.Nests.{phases_of, phase_at, member_trees, piece_trees}
use Rattle.step_eval.proofs.PieceLemmas.{team_view, phase_at_place}
use Rattle.step_eval.proofs.jobs.works_of.Goals as goal

pub index-requires : goal.index-requires
index-requires c =
    let t = c.in-Team in
    let phases = (out-Blocks t.phases).blocks in
    let view = ap statement_of t.is ∙ team_view t.line t.var t.low t.high t.members t.phases in
    let count : count_of (sequences_of t.phases) ≡ length phases.items = ap count_of (sequences_of-blocks t.phases) ∙ count_of-sequences phases.items in
    let below = ap phases_of view in
    let whole = phases.ok.0 in
    omega (arith, count, below, whole)

pub returns-in-Team : goal.returns-in-Team
returns-in-Team c =
    let t = c.in-Team in
    let phases = (out-Blocks t.phases).blocks in
    let view : statement_of c.args.construct.now ≡ Team t.line t.var t.low t.high t.members (sequences_of t.phases)
    = ap statement_of t.is ∙ team_view t.line t.var t.low t.high t.members t.phases in
    let count : count_of (sequences_of t.phases) ≡ length phases.items = ap count_of (sequences_of-blocks t.phases) ∙ count_of-sequences phases.items in
    let most = ap phases_of view in
    let below : c.args.phase < length phases.items = omega (arith, count, most) in
    let body : sequence_of c.index.result.now ≡ phase_at (sequences_of t.phases) c.args.phase
    = ap sequence_of c.index.ensures ∙ ap (λ k. sequence_of (get_or phases.items k c.index.result.now)) c.from.ensures
    ∙ sym (phase_at_place phases.items c.args.phase c.index.result.now below) ∙ ap (λ bs. phase_at bs c.args.phase) (sym (sequences_of-blocks t.phases)) in
    let low : to_z w64 (of_z w64 t.low) ≡ t.low = search rules in
    let high : to_z w64 (of_z w64 t.high) ≡ t.high = search rules in
    let members : to_z w64 (of_z w64 t.members) ≡ t.members = search rules in
    let m : c.unsigned_abs.result ≡ unsigned_abs t.members = c.unsigned_abs.ensures.value ∙ ap unsigned_abs members in
    let same : member_trees t.var (to_z w64 (of_z w64 t.low)) (to_z w64 (of_z w64 t.high)) c.unsigned_abs.result (sequence_of c.index.result.now) 0 c.unsigned_abs.result
    ≡ piece_trees (statement_of c.args.construct.now) c.args.phase
    = rw (view, low, high, m, body) refl in
    IfOk-weaker c.member_works.result _ _ (λ works e. e ∙ same) c.member_works.ensures

use Rattle.std.proofs.Common.{◌≡◌, ◌∷◌, [], ◌++◌, ◌+◌, true, drop, map, ap, sym, ◌∙◌}
use Rattle.std.specs.Bool.{if◌then◌else◌}
use Rattle.std.specs.Option.{is_some}
use Rattle.std.specs.Result.{is_ok}
use Rattle.array_tree.specs.Trees.{sequence, statement_of}
use Rattle.array_meaning.specs.Stores.{Vars}
use Rattle.array_meaning.specs.Work.{sequence_work, statement_work}
use Rattle.array_meaning.proofs.ThreadLemmas.{statements_left}
use Rattle.array_eval.specs.Resolved.{after_acts}
use Rattle.array_eval.specs.Traces.{Trace, traced}
use Rattle.array_eval.specs.Views.{vars_of}
use Rattle.array_eval.proofs.ActLemmas.{after_push}
use Rattle.array_eval.proofs.TraceLemmas.{traced_followed_by}
use Rattle.array_eval.proofs.acts.acts_of.Goals as goal

pub loop-statement-preserved : goal.loop-statement-preserved
loop-statement-preserved c = λ turn t.
    let arrays = c.args.layout.now in
    let vars : Vars = (c.args.var.now, turn) ∷ vars_of c.args.scope.now in
    let items = c.deref-statement-items.result.now in
    let acts = c.loop-statement.acts.items in
    let before = after_acts acts turn t in
    let left : Trace → Trace = traced arrays (sequence_work (sequence (map statement_of (drop (c.loop-statement.statement-index + 1) items))) vars) in
    let passed : is_ok c.push.result ≡ true = sym c.ok-in-loop-statement.ensures.variant ∙ ap is_some c.in_ok-ok.was in
    let pushed : c.push.new.self.items ≡ acts ++ c.in_ok-act.act ∷ [] =
    c.push.ensures.items ∙ ap (λ b. if b then acts ++ c.in_ok-act.act ∷ [] else acts) passed in
    ap (λ more. left (after_acts more turn t)) pushed
    ∙ ap left (after_push acts c.in_ok-act.act turn t ∙ c.in_ok-act.ensures turn before
    ∙ ap (λ s. traced arrays (statement_work (statement_of s) vars) before) c.statement-item.is)
    ∙ sym (statements_left Trace (traced arrays) (traced_followed_by arrays) items c.loop-statement.statement-index c.statement-item.result vars before c.loop-statement-test.true)
    ∙ c.loop-statement.invariant turn t

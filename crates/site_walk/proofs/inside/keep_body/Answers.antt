use Rattle.std.proofs.Common.{[], ◌+◌, Option, drop, map, ap, sym, ◌∙◌}
use Rattle.array_tree.specs.Trees.{statement_of, sequence}
use Rattle.array_meaning.specs.Work.{statement_work, sequence_work}
use Rattle.array_meaning.proofs.ThreadLemmas.{statements_left}
use Rattle.site_walk.specs.declared.fault.WalkFault.{WalkFault}
use Rattle.site_walk.specs.Outside.{visit_fault}
use Rattle.site_walk.specs.Firsts.{or_first}
use Rattle.site_walk.specs.Visits.{after}
use Rattle.site_walk.proofs.VisitLemmas.{after_followed_by}
use Rattle.site_walk.proofs.inside.keep_body.Goals as goal

pub loop-statement-preserved : goal.loop-statement-preserved
loop-statement-preserved c =
    let arrays = c.args.layout.now in
    let items = c.deref-statement-items.result.now in
    ap (after (or_first (visit_fault arrays)) arrays (sequence_work (sequence (map statement_of (drop (c.loop-statement.statement-index + 1) items))) []))
    (c.keep_unless_settled.ensures ∙ ap (λ s. after (or_first (visit_fault arrays)) arrays (statement_work (statement_of s) []) c.loop-statement.found) c.statement-item.is)
    ∙ sym (statements_left (Option WalkFault) (after (or_first (visit_fault arrays)) arrays) (after_followed_by (or_first (visit_fault arrays)) arrays) items c.loop-statement.statement-index c.statement-item.result [] c.loop-statement.found c.loop-statement-test.true)
    ∙ c.loop-statement.invariant

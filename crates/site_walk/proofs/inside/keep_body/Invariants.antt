use Rattle.std.proofs.Common.{◌≡◌, [], drop, map}
use Rattle.array_tree.specs.Trees.{statement_of, sequence_of, sequence}
use Rattle.array_meaning.specs.Work.{sequence_work}
use Rattle.site_walk.specs.Outside.{visit_fault}
use Rattle.site_walk.specs.Firsts.{or_first}
use Rattle.site_walk.specs.Visits.{after}
use Rattle.site_walk.proofs.inside.keep_body.Given as goal

-- The remaining statements from the state so far give what all statements give from the start.
abbrev pub invariant-loop-statement : goal.invariant-loop-statement
invariant-loop-statement l =
    after (or_first (visit_fault l.layout)) l.layout (sequence_work (sequence (map statement_of (drop l.statement-index l.statement-items))) []) l.found
    ≡ after (or_first (visit_fault l.layout)) l.layout (sequence_work (sequence_of l.body) []) l.fn.found

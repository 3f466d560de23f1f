use Rattle.std.proofs.Common.{rules, ◌≡◌, ◌∙◌, ◌+◌, ◌<◌, ◌≤◌, List, length, get_or, sym, ap, subst}
use Rattle.transfer_table.specs.Plan.{Plan}
use Rattle.transfer_table.specs.Table.{Position, TableState, admit_of}
use Rattle.transfer_table.specs.declared.entry.Entry.TheVariants.{Register}
use Rattle.journal_picture.specs.Drawn.{or_same}
use Rattle.journal_picture.specs.Visits.{followed}
use Rattle.journal_picture.specs.declared.visits.Visits.{Visits}
use Rattle.journal_picture.proofs.Visited.{SoFar, so_far_last, so_far_next}
use Rattle.journal_picture.proofs.visits.visits_of.Goals as goal

-- The numbers go on by the entry.
pub loop-entry-preserved : goal.loop-entry-preserved
loop-entry-preserved c =
    let p = c.args.plan.now in
    let es = c.args.list.now in
    let k = c.loop-entry.entry-index in
    let b = c.loop-entry.board in
    let vs = c.loop-entry.visits.items in
    let e = get_or es k (Register 0 0) in
    let same : b.plan ≡ p = c.loop-entry.invariant.0 in
    let within : k < length es = search rules in
    let next = so_far_next p es k b.state vs (Register 0 0) within c.loop-entry.invariant.1 in
    let state : c.follow.new.board.state ≡ or_same b.state (admit_of p b.state e) =
    ap (λ (x : Position). x.state) c.follow.ensures.board ∙ ap (λ (q : Plan). or_same b.state (admit_of q b.state e)) same in
    let visits : c.follow.new.visits.items ≡ followed p b.state vs e =
    c.follow.ensures.visits ∙ ap (λ (q : Plan). followed q b.state vs e) same in (
      ap (λ (x : Position). x.plan) c.follow.ensures.board ∙ same,
      subst (λ (t : TableState). SoFar p es (k + 1) t c.follow.new.visits.items) (sym state)
          (subst (λ (ws : List Visits). SoFar p es (k + 1) (or_same b.state (admit_of p b.state e)) ws) (sym visits) next),
    )

-- At the end each site has its numbers.
pub returns-clause-same : goal.returns-clause-same
returns-clause-same c =
    let past : length c.args.list.now ≤ c.loop-entry.entry-index = search rules in
    so_far_last c.args.plan.now c.args.list.now c.loop-entry.entry-index c.loop-entry.board.state c.loop-entry.visits.items past c.loop-entry.invariant.1

pub returns-clause-each : goal.returns-clause-each
returns-clause-each c = c.loop-entry.invariant.1.size

use Rattle.std.proofs.Common.{arith, ◌+ℤ◌, ◌<ℤ◌, pos, to_z, of_z, ◌+◌, drop, map, ap, sym, ◌∙◌, ◌≡◌, [], ◌∷◌, w64}
use Rattle.std.proofs.lemmas.Int.{ints}
use Rattle.array_tree.specs.Trees.{statement_of, sequence_of, sequences_of, sequence, sequences}
use Rattle.array_meaning.specs.Sites.{branch_works, statement_sites, sequence_sites, branches_sites, phases_sites, loop_sites}
use Rattle.array_eval.specs.Views.{vars_of}
use Rattle.std.specs.Option.{option_or}
use Rattle.site_walk.specs.Firsts.{first_of, or_first_of}
use Rattle.array_meaning.proofs.LastLemmas.{or_assoc, or_none}
use Rattle.touch_bounds.proofs.TreeLemmas.{statement-if, statement-par}
use Rattle.site_walk.proofs.FirstLemmas.{or_first_append}
use Rattle.site_walk.proofs.SeekLemmas.{no_sites, statement_next, branch_next, phase_next, turn_next}
use Rattle.site_walk.proofs.sites.+seek.Goals as goal

pub seek_block-loop-statement-preserved : goal.seek_block-loop-statement-preserved
seek_block-loop-statement-preserved g t c =
    let fault_of = g.S.SiteSearch.fault_of c.args.layout.now in
    let vars = vars_of c.args.scope.now in
    let items = c.deref-statement-items.result.now in
    record {
      sized = c.seek_statement.ensures.sized;
      found = ap (or_first_of fault_of (sequence_sites (sequence (map statement_of (drop (c.loop-statement.statement-index + 1) items))) vars))
          (c.seek_statement.ensures.found ∙ ap (λ s. or_first_of fault_of (statement_sites (statement_of s) vars) (g.S.SiteSearch.found c.loop-statement.search)) c.statement-item.is)
          ∙ sym (statement_next fault_of items c.loop-statement.statement-index c.statement-item.result vars (g.S.SiteSearch.found c.loop-statement.search) c.loop-statement-test.true)
          ∙ c.loop-statement.invariant.found;
    }

pub seek_branches-loop-branch-preserved : goal.seek_branches-loop-branch-preserved
seek_branches-loop-branch-preserved g t c =
    let fault_of = g.S.SiteSearch.fault_of c.args.layout.now in
    let vars = vars_of c.args.scope.now in
    let items = c.deref-branch-items.result.now in
    record {
      sized = c.seek_block.ensures.sized;
      found = ap (or_first_of fault_of (branches_sites (sequences (map sequence_of (drop (c.loop-branch.branch-index + 1) items))) vars))
          (c.seek_block.ensures.found ∙ ap (λ b. or_first_of fault_of (sequence_sites (sequence_of b) vars) (g.S.SiteSearch.found c.loop-branch.search)) c.branch-item.is)
          ∙ sym (branch_next fault_of items c.loop-branch.branch-index c.branch-item.result vars (g.S.SiteSearch.found c.loop-branch.search) c.loop-branch-test.true)
          ∙ c.loop-branch.invariant.found;
    }

pub seek_loop-loop-number-preserved : goal.seek_loop-loop-number-preserved
seek_loop-loop-number-preserved g t c =
    let fault_of = g.S.SiteSearch.fault_of c.args.layout.now in
    let vars = vars_of c.args.scope.now in
    let var = c.args.turns.now.var.now in
    let body = sequence_sites (sequence_of c.args.body.now) in
    let x = to_z w64 c.loop-number.number-bits in
    let high = c.args.turns.now.high in
    let test = c.loop-number-test.true in
    let below : x <ℤ high = grind (arith, ints) in
    let next : to_z w64 (of_z w64 (x +ℤ pos 1)) ≡ x +ℤ pos 1 = omega (arith, ints) in
    record {
      sized = c.seek_block.ensures.sized;
      found = ap (λ y. or_first_of fault_of (loop_sites var y high body vars) (g.S.SiteSearch.found c.seek_block.new.search)) next
          ∙ ap (or_first_of fault_of (loop_sites var (x +ℤ pos 1) high body vars)) c.seek_block.ensures.found
          ∙ sym (turn_next fault_of var x high body vars (g.S.SiteSearch.found c.loop-number.search) below)
          ∙ c.loop-number.invariant.found;
    }

pub seek_loop-returns-then-sites_in_block-eq0-clause-found : goal.seek_loop-returns-then-sites_in_block-eq0-clause-found
seek_loop-returns-then-sites_in_block-eq0-clause-found g t c =
    no_sites (g.S.SiteSearch.fault_of c.args.layout.now) c.args.turns.now.var.now c.args.turns.now.low c.args.turns.now.high (sequence_of c.args.body.now) (vars_of c.args.scope.now)
    (g.S.SiteSearch.found c.args.search.now) (sym c.sites_in_block.ensures ∙ c.if-sites_in_block-eq0.true)

pub seek_loop-returns-then-is_settled-clause-found : goal.seek_loop-returns-then-is_settled-clause-found
seek_loop-returns-then-is_settled-clause-found g t c =
    sym (ap (option_or (g.S.SiteSearch.found c.args.search.now)) c.if-is_settled.ensures ∙ or_none (g.S.SiteSearch.found c.args.search.now))

pub seek_phases-loop-phase-preserved : goal.seek_phases-loop-phase-preserved
seek_phases-loop-phase-preserved g t c =
    let fault_of = g.S.SiteSearch.fault_of c.args.layout.now in
    let vars = vars_of c.args.scope.now in
    let var = c.args.turns.now.var.now in
    let low = c.args.turns.now.low in
    let high = c.args.turns.now.high in
    let items = c.deref-phase-items.result.now in
    record {
      sized = c.seek_loop.ensures.sized;
      found = ap (or_first_of fault_of (phases_sites (sequences (map sequence_of (drop (c.loop-phase.phase-index + 1) items))) var low high vars))
          (c.seek_loop.ensures.found ∙ ap (λ b. or_first_of fault_of (loop_sites var low high (sequence_sites (sequence_of b)) vars) (g.S.SiteSearch.found c.loop-phase.search)) c.phase-item.is)
          ∙ sym (phase_next fault_of items c.loop-phase.phase-index c.phase-item.result var low high vars (g.S.SiteSearch.found c.loop-phase.search) c.loop-phase-test.true)
          ∙ c.loop-phase.invariant.found;
    }

pub seek_statement-returns-in-If-clause-found : goal.seek_statement-returns-in-If-clause-found
seek_statement-returns-in-If-clause-found g t c =
    let fault_of = g.S.SiteSearch.fault_of c.args.layout.now in
    let vars = vars_of c.args.scope.now in
    let first = sequence_sites (sequence_of c.in-If.then_block) vars in
    let second = sequence_sites (sequence_of c.in-If.else_block) vars in
    rw (c.in-If.is, statement-if)
    (c.seek_block-in-If.ensures.found ∙ ap (or_first_of fault_of second) c.seek_block.ensures.found ∙ sym (or_first_append fault_of first second (g.S.SiteSearch.found c.args.search.now)))

pub seek_statement-returns-in-Par-clause-found : goal.seek_statement-returns-in-Par-clause-found
seek_statement-returns-in-Par-clause-found g t c =
    let fault_of = g.S.SiteSearch.fault_of c.args.layout.now in
    let vars = vars_of c.args.scope.now in
    let own = fault_of (record { line = c.in-Par.line; rounds = branch_works (sequences_of c.in-Par.branches) vars ∷ [] }) in
    let inner = branches_sites (sequences_of c.in-Par.branches) vars in
    rw (c.in-Par.is, statement-par)
    (c.seek_branches.ensures.found ∙ ap (or_first_of fault_of inner) c.keep_par.ensures.found ∙ or_assoc (g.S.SiteSearch.found c.args.search.now) own (first_of fault_of inner))

use Rattle.std.proofs.Common.{◌≡◌, drop, map}
use Rattle.array_tree.specs.Trees.{statement_of, sequence_of, sequences_of, sequence, sequences}
use Rattle.array_meaning.specs.Sites.{sequence_sites, branches_sites, phases_sites, loop_sites}
use Rattle.array_eval.specs.Views.{vars_of}
use Rattle.site_walk.specs.Firsts.{or_first_of}
use Rattle.site_walk.proofs.sites.+seek.Given as goal

-- The remaining statements from the state so far give what all statements give from the start.
abbrev pub invariant-seek_block-loop-statement : goal.invariant-seek_block-loop-statement
invariant-seek_block-loop-statement g l = record {
  sized : g.S.SiteSearch.IsFor l.layout l.search;
  found : or_first_of (g.S.SiteSearch.fault_of l.layout) (sequence_sites (sequence (map statement_of (drop l.statement-index l.statement-items))) (vars_of l.scope)) (g.S.SiteSearch.found l.search)
      ≡ or_first_of (g.S.SiteSearch.fault_of l.layout) (sequence_sites (sequence_of l.block) (vars_of l.scope)) (g.S.SiteSearch.found l.fn.search);
}

abbrev pub invariant-seek_branches-loop-branch : goal.invariant-seek_branches-loop-branch
invariant-seek_branches-loop-branch g l = record {
  sized : g.S.SiteSearch.IsFor l.layout l.search;
  found : or_first_of (g.S.SiteSearch.fault_of l.layout) (branches_sites (sequences (map sequence_of (drop l.branch-index l.branch-items))) (vars_of l.scope)) (g.S.SiteSearch.found l.search)
      ≡ or_first_of (g.S.SiteSearch.fault_of l.layout) (branches_sites (sequences_of l.branches) (vars_of l.scope)) (g.S.SiteSearch.found l.fn.search);
}

abbrev pub invariant-seek_loop-loop-number : goal.invariant-seek_loop-loop-number
invariant-seek_loop-loop-number g l = record {
  sized : g.S.SiteSearch.IsFor l.layout l.search;
  found : or_first_of (g.S.SiteSearch.fault_of l.layout) (loop_sites l.turns.var.now l.number l.turns.high (sequence_sites (sequence_of l.body)) (vars_of l.scope)) (g.S.SiteSearch.found l.search)
      ≡ or_first_of (g.S.SiteSearch.fault_of l.layout) (loop_sites l.turns.var.now l.turns.low l.turns.high (sequence_sites (sequence_of l.body)) (vars_of l.scope)) (g.S.SiteSearch.found l.fn.search);
}

abbrev pub invariant-seek_phases-loop-phase : goal.invariant-seek_phases-loop-phase
invariant-seek_phases-loop-phase g l = record {
  sized : g.S.SiteSearch.IsFor l.layout l.search;
  found : or_first_of (g.S.SiteSearch.fault_of l.layout) (phases_sites (sequences (map sequence_of (drop l.phase-index l.phase-items))) l.turns.var.now l.turns.low l.turns.high (vars_of l.scope)) (g.S.SiteSearch.found l.search)
      ≡ or_first_of (g.S.SiteSearch.fault_of l.layout) (phases_sites (sequences_of l.phases) l.turns.var.now l.turns.low l.turns.high (vars_of l.scope)) (g.S.SiteSearch.found l.fn.search);
}

use Rattle.std.proofs.Common.{◌≡◌, None, w64, to_z, of_z, subst, arith}
use Rattle.std.proofs.lemmas.Bool.{OnTrue_at, OnTrue_from}
use Rattle.std.proofs.lemmas.Int.{ints}
use Rattle.array_tree.specs.Trees.{sequence_of}
use Rattle.array_meaning.specs.Sites.{AreSitesApart, loop_sites, sequence_sites}
use Rattle.array_eval.specs.Views.{vars_of}
use Rattle.touch_bounds.proofs.RangeLemmas.{fixed_within}
use Rattle.site_walk.specs.FirstOverlap.{site_overlap}
use Rattle.site_walk.specs.Firsts.{first_of}
use Rattle.site_walk.proofs.SettledLemmas.{sites_none}
use Rattle.site_walk.proofs.overlap.OverlapsSiteSearch.is_settled.Goals as goal

pub returns-then-loop_pays : goal.returns-then-loop_pays
returns-then-loop_pays c =
    let arrays = c.args.layout.now in
    let vars = vars_of c.args.scope.now in
    let turns = c.args.turns.now in
    let body = sequence_sites (sequence_of c.args.body.now) in
    let sites = loop_sites turns.var.now turns.low turns.high body vars in
    let low : to_z w64 (of_z w64 turns.low) ≡ turns.low = omega (arith, ints) in
    let high : to_z w64 (of_z w64 turns.high) ≡ turns.high = omega (arith, ints) in
    OnTrue_from c.loop_is_settled.result (first_of (site_overlap arrays) sites ≡ None)
    (λ yes. sites_none arrays sites
    (subst (λ h. AreSitesApart arrays (loop_sites turns.var.now turns.low h body vars)) high
    (subst (λ l. AreSitesApart arrays (loop_sites turns.var.now l (to_z w64 (of_z w64 turns.high)) body vars)) low
    (OnTrue_at yes c.loop_is_settled.ensures vars (fixed_within vars)))))

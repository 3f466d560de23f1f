use Rattle.std.proofs.Common.{◌≡◌, IfSome, sym, subst, arith, rules}
use Rattle.std.specs.Prelude.{slice_set, slice_index_or, Some}
use Rattle.std.proofs.iter.Serving.{serving}
use denote.Param.Send.{sendable}
use Rattle.hart_loop.specs.Harts.{StartsIn, AllStart, HaveRun}
use Rattle.hart_loop.proofs.Crews.{zip_all, all_reversed, starts_with, run_reversed, crew_ran, first_made}
use Rattle.hart_loop.proofs.Crossings.{hart_send}
use Rattle.hart_loop.proofs.crew.run_all.Goals as goal

pub for_each_mut-requires-send-T : goal.for_each_mut-requires-send-T
for_each_mut-requires-send-T g c κs within = search (hart_send, sendable) depth 20

-- The harts start as before, in reverse order, the last of them with the job.
pub for_each_mut-requires-clause-accepts : goal.for_each_mut-requires-clause-accepts
for_each_mut-requires-clause-accepts g c κs within =
    let seen = g.P.Port.seen in
    let tree = c.args.run.tree.now in
    let first = starts_with seen tree c.args.harts.now c.index-harts-0.result c.args.job c.requires.some c.requires.starts in
    let starts : AllStart (λ hart. seen hart.port) tree c.reverse.new.self =
    subst (AllStart (λ hart. seen hart.port) tree) (sym c.reverse.ensures.after) (all_reversed (λ hart. StartsIn tree (seen hart.port)) _ first) in
    first_of (grind serving, search (starts, serving))

-- The harts ran in reverse order, the first of them with the job.
pub returns-clause-same : goal.returns-clause-same
returns-clause-same g c =
    let seen = g.P.Port.seen in
    let d = c.index-harts-0.result in
    let xs = slice_set c.args.harts.now 0 (record (slice_index_or c.args.harts.now 0 d) { job = Some c.args.job }) in
    let zs = c.for_each_mut.new.s in
    let each : HaveRun seen c.reverse.new.self zs = zip_all _ _ _ c.for_each_mut.auto.s (λ k d h. let post = (c.for_each_mut.ensures k d h).1 in first_of (search rules, grind arith)) in
    let ran = subst (HaveRun seen xs) (sym c.reverse-2.ensures.after) (run_reversed seen xs zs (subst (λ hs. HaveRun seen hs zs) c.reverse.ensures.after each)) in
    crew_ran seen c.args.harts.now c.reverse-2.new.self d c.index-harts-0-2.result c.args.job c.take.new.self c.requires.some ran

pub returns-clause-piece : goal.returns-clause-piece
returns-clause-piece g c =
    let seen = g.P.Port.seen in
    let d = c.index-harts-0.result in
    let xs = slice_set c.args.harts.now 0 (record (slice_index_or c.args.harts.now 0 d) { job = Some c.args.job }) in
    let zs = c.for_each_mut.new.s in
    let each : HaveRun seen c.reverse.new.self zs = zip_all _ _ _ c.for_each_mut.auto.s (λ k d h. let post = (c.for_each_mut.ensures k d h).1 in first_of (search rules, grind arith)) in
    let ran = subst (HaveRun seen xs) (sym c.reverse-2.ensures.after) (run_reversed seen xs zs (subst (λ hs. HaveRun seen hs zs) c.reverse.ensures.after each)) in
    subst (λ made. IfSome made (λ piece. piece.job ≡ c.args.job)) (sym c.take.ensures.value)
    (first_made seen c.args.harts.now c.reverse-2.new.self d c.index-harts-0-2.result c.args.job c.requires.some ran)

use Rattle.std.proofs.Common.{◌≡◌, ◌∙◌, IfSome, All, map, sym, ap, subst}
use Rattle.std.proofs.lemmas.List.{with_items_is}
use Rattle.std.proofs.lemmas.Slice.Zip.{AllZip-long}
use Rattle.array_tree.specs.Trees.{program_of}
use Rattle.array_jobs.specs.Jobs.{job_of}
use Rattle.array_jobs.specs.Bodies.{body_of}
use Rattle.deque_rows.specs.Rows as rows
use Rattle.claim_words.specs.Seats as claim_seats
use Rattle.hart_loop.specs.Harts.{StartsIn, AreSame}
use Rattle.hart_loop.proofs.Crews.{port_of, all_of_map, ports_stay, rows_stay, seats_stay}
use Rattle.hart_loop.proofs.crew.run_ports.Goals as goal

pub run_all-piece-requires-clause-starts : goal.run_all-piece-requires-clause-starts
run_all-piece-requires-clause-starts g c κs within =
    let seen = g.P.Port.seen in
    let are = ap (map port_of) c.as_mut_slice.ensures.value ∙ c.in_ok-harts.ensures.ports ∙ ap (λ t. t.items) c.in_ok-claims.ensures.ports in
    all_of_map port_of (λ port. StartsIn c.args.run.tree.now (seen port)) c.as_mut_slice.result.now (subst (All (λ port. StartsIn c.args.run.tree.now (seen port))) (sym are) c.requires.starts)

pub returns-in-Some-clause-same : goal.returns-in-Some-clause-same
returns-in-Some-clause-same g c =
    let seen = g.P.Port.seen in
    let xs = c.as_mut_slice.result.now in
    let ys = c.run_all-piece.new.harts in
    let are = ap (map port_of) c.as_mut_slice.ensures.value ∙ c.in_ok-harts.ensures.ports ∙ ap (λ t. t.items) c.in_ok-claims.ensures.ports in
    let back = ap (map port_of) (with_items_is c.in_ok-harts.harts ys (AllZip-long _ xs ys c.run_all-piece.ensures.same ∙ c.as_mut_slice.ensures.len)) in
    subst (λ ports. AreSame seen ports c.in_ok-crew_parts.crew_parts.ports.items) are
    (subst (AreSame seen (map port_of xs)) (sym (c.in_ok-crew_parts.ensures.ports ∙ back)) (ports_stay seen xs ys c.run_all-piece.ensures.same))

pub settle_all-requires : goal.settle_all-requires
settle_all-requires g c =
    let seen = g.P.Port.seen in
    let claims = c.in_ok-claims.claims in
    let xs = c.as_mut_slice.result.now in
    let ys = c.run_all-piece.new.harts in
    let back = with_items_is c.in_ok-harts.harts ys (AllZip-long _ xs ys c.run_all-piece.ensures.same ∙ c.as_mut_slice.ensures.len) in
    let rs = c.in_ok-crew_parts.ensures.rows ∙ ap (map (λ hart. hart.sites.hart_local.rows)) back ∙ rows_stay seen xs ys c.run_all-piece.ensures.same ∙ ap (map (λ hart. hart.sites.hart_local.rows)) c.as_mut_slice.ensures.value ∙ c.in_ok-harts.ensures.rows in
    let ss = c.in_ok-crew_parts.ensures.seats ∙ ap (map (λ hart. hart.sites.hart_local.seat)) back ∙ seats_stay seen xs ys c.run_all-piece.ensures.same ∙ ap (map (λ hart. hart.sites.hart_local.seat)) c.as_mut_slice.ensures.value ∙ c.in_ok-harts.ensures.seats in
    record {
      rows = subst rows.AreAll (sym rs) c.in_ok-claims.ensures.hart_local.rows;
      seats = subst (claim_seats.AreAll claims.table) (sym ss) c.in_ok-claims.ensures.hart_local.seats;
    }

pub returns-in-Some-clause-piece : goal.returns-in-Some-clause-piece
returns-in-Some-clause-piece g c =
    let made : c.in-Some.piece.job ≡ c.in_ok-job.job = subst (λ piece. IfSome piece (λ piece. piece.job ≡ c.in_ok-job.job)) c.in-Some.is c.run_all-piece.ensures.piece in
    ap job_of made ∙ c.in_ok-job.ensures ∙ ap (λ p. body_of (program_of p)) c.program.ensures.same

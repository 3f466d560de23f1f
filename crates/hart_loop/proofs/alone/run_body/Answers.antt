use Rattle.std.proofs.Common.{◌∙◌, List, [], sym, ap, subst}
use Rattle.array_tree.specs.Trees.{program_of}
use Rattle.transfer_table.specs.Plan.{IsPlan}
use Rattle.transfer_table.specs.declared.entry.Entry.{Entry}
use Rattle.array_jobs.specs.Jobs.{job_of}
use Rattle.array_jobs.specs.Bodies.{body_of}
use Rattle.job_machines.specs.Machines.{IsFreshJob}
use Rattle.job_machines.proofs.Jobs.{bodies_are_fresh}
use Rattle.hart_loop.proofs.alone.run_body.Goals as goal

pub run_piece-requires-clause-fresh : goal.run_piece-requires-clause-fresh
run_piece-requires-clause-fresh c = λ alone.
    let v = c.args.port.now.view in
    let program = program_of c.args.accepted.now.program in
    let fresh = bodies_are_fresh program c.args.tree.now c.requires.parents in
    let body = subst (IsFreshJob c.args.tree.now 0 []) (sym (c.in_ok-job.ensures ∙ ap (λ q. body_of (program_of q)) c.program.ensures.same)) fresh in
    let here = subst (λ n. IsFreshJob c.args.tree.now n [] (job_of c.in_ok-job.job)) (sym c.requires.base) body in
    let now = subst (λ (es : List Entry). IsFreshJob c.args.tree.now v.owner es (job_of c.in_ok-job.job)) (sym c.requires.none) here in
    (tt, (subst IsPlan (sym c.requires.plan) c.plan.ensures.kept, subst (λ p. IsFreshJob p v.owner v.mine (job_of c.in_ok-job.job)) (sym c.requires.plan) now))

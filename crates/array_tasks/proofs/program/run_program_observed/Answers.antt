use Rattle.std.proofs.Common.{ap, ◌∙◌}
use Rattle.array_tree.specs.declared.tree.Program.{Program}
use Rattle.array_tree.specs.Trees.{program_of}
use Rattle.array_jobs.specs.Bodies.{body_of}
use Rattle.array_jobs.specs.Jobs.{JobParts, job_of}
use Rattle.array_tasks.proofs.Bodies.{writes_fit, body_left}
use Rattle.array_tasks.proofs.program.run_program_observed.Goals as goal

pub with-requires : goal.with-requires
with-requires g c =
    writes_fit c.in_ok-body.body _ c.in_ok-zeros.zeros c.in_ok-written.written.pairs c.body.view_is c.body.invariant c.in_ok-zeros.ensures c.in_ok-written.ensures.written

pub returns-clause-arrays : goal.returns-clause-arrays
returns-clause-arrays g c =
    let is = c.in_ok-body.ensures ∙ ap (λ (p : Program). body_of (program_of p)) c.program.ensures.same in
    let start = c.in_ok-zeros.ensures ∙ ap (λ (j : JobParts). j.store) c.body.view_is in
    c.in_ok-store.ensures.merged
    ∙ body_left (program_of c.args.accepted.now.program) (job_of c.in_ok-body.body) c.in_ok-zeros.zeros c.in_ok-written.written.pairs is start c.in_ok-written.ensures.written

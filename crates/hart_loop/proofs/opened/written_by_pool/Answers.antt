use Rattle.std.proofs.Common.{◌∙◌}
use Rattle.hart_loop.proofs.opened.written_by_pool.Goals as goal

-- The pool has the jobs of the shared one, which are those of the construct.
pub take_from_pool-requires-clause-of : goal.take_from_pool-requires-clause-of
take_from_pool-requires-clause-of c = record {
  fit = c.requires.of.fit;
  one_phase = c.requires.of.one_phase;
  jobs = c.has_jobs_of.ensures.0 c.if-has_jobs_of.true ∙ c.requires.of.jobs;
}

use Rattle.std.proofs.Common.{◌≡◌, drop}
use Rattle.array_eval.specs.Traces.{noted_all}
use Rattle.array_tasks.specs.Merging.{writes_in}
use Rattle.array_tasks.proofs.constructs.merge_all.Given as goal

-- The remaining merges leave what all leave.
abbrev pub invariant-outputs : goal.invariant-outputs
invariant-outputs l = noted_all (writes_in (drop l.written-index l.outputs)) l.store ≡ noted_all (writes_in l.outputs) l.fn.store

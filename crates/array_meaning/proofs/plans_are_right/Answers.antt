use Rattle.std.proofs.Common.{arith}
use Rattle.array_meaning.proofs.PlanLemmas.{sequence_length, sequence_earlier}
use Rattle.array_meaning.proofs.plans_are_right.Goals as goal

pub returns : goal.returns
returns c program = record {
  earlier = sequence_earlier program.body 0 1 (omega arith);
  count = sequence_length program.body 0 1;
}

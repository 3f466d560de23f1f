use Rattle.array_lang.proofs.OneFault.{one_fault, none_where_spelled}
use Rattle.array_lang.proofs.laws.one_fault.Goals as goal

pub returns-clause-one : goal.returns-clause-one
returns-clause-one c = one_fault

pub returns-clause-none : goal.returns-clause-none
returns-clause-none c = none_where_spelled

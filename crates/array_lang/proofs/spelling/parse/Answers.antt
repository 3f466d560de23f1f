use Rattle.std.proofs.Common.{sym, length}
use Rattle.array_lang.proofs.Whole.{found_whole, only_whole, fault_whole, token_fault, cut_fault, none_nested}
use Rattle.array_lang.proofs.spelling.parse.Goals as goal

pub returns-in-None-clause-found : goal.returns-in-None-clause-found
returns-in-None-clause-found c = found_whole _ _ _ _ c.in-Ok.ensures (sym (rw c.deref.ensures.value at c.in-None.ensures.at)) (rw c.deref-in-None.ensures.value at c.whole.ensures)

pub returns-in-None-clause-only : goal.returns-in-None-clause-only
returns-in-None-clause-only c = only_whole _ _ _ _ c.in-Ok.ensures (rw c.deref-in-None.ensures.value at c.whole.ensures)

pub returns-in-None-clause-fault : goal.returns-in-None-clause-fault
returns-in-None-clause-fault c = fault_whole _ _ _ c.in-Ok.ensures (rw c.deref-in-None.ensures.value at c.whole.ensures)

pub returns-clause-fault : goal.returns-clause-fault
returns-clause-fault c = token_fault _ _ _ c.in-Ok.ensures (rw c.deref-in-Some.ensures.value at (c.first_fault.ensures (length c.args.text.now)))

pub returns-in-Err-clause-fault : goal.returns-in-Err-clause-fault
returns-in-Err-clause-fault c = cut_fault _ _ _ c.in-Err.ensures c.from.ensures

pub returns-clause-only : goal.returns-clause-only
returns-clause-only c = λ p s. absurd (none_nested _ _ _ p c.in-Ok.ensures (sym (rw c.deref.ensures.value at c.in-Some.ensures.at)) s)

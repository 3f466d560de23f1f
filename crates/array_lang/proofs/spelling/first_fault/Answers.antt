use Rattle.std.proofs.Common.{arith}
use Rattle.std.proofs.lemmas.Grind.{common_steps}
use Rattle.std.proofs.lemmas.Bool.Decides.{nat_tests}
use Rattle.array_lang.proofs.Whole.{short_over, short_unexpected, whole_over}
use Rattle.array_lang.proofs.spelling.first_fault.Goals as goal

pub returns-then-is_empty : goal.returns-then-is_empty
returns-then-is_empty c = λ end. short_over c.args.tokens.now _ _ c.in-Err-Unexpected.rest.now c.args.index end _ c.requires.within c.split_at-2.ensures.front c.split_at.ensures.back c.requires.over (rw c.in-Err-Unexpected.field-0-is at c.in-Err-Unexpected.ensures) (grind (arith, common_steps, nat_tests)) c.place-then-is_empty.ensures

pub returns-else-is_empty : goal.returns-else-is_empty
returns-else-is_empty c = λ end. short_unexpected c.args.tokens.now _ c.in-Err-Unexpected.rest.now c.args.index end _ c.requires.within c.split_at-2.ensures.front c.requires.over (rw c.in-Err-Unexpected.field-0-is at c.in-Err-Unexpected.ensures) (grind (arith, common_steps, nat_tests)) c.place-else-is_empty.ensures

pub returns-in-Ok : goal.returns-in-Ok
returns-in-Ok c = λ end. whole_over c.args.tokens.now _ _ c.args.index end _ c.requires.within c.split_at-2.ensures.front c.split_at.ensures.back c.requires.over c.in-Ok.ensures c.place.ensures

use Rattle.std.proofs.Common.{◌≡◌, ◌∙◌, IfOk, Result, Ok, Err, ap, refl, sym, subst}
use Rattle.std.specs.declared.alloc.AllocError.{AllocError}
use Rattle.array_eval.specs.declared.overlay.Overlay.{Overlay}
use Rattle.step_eval.specs.Nests.{NestedTree, nested_of, nested_writes}
use Rattle.pipe_sched.specs.Pipes.{IsUncrossed}
use Rattle.hart_loop.proofs.opened.written_by_pipe.Goals as goal

-- The pipe is that of the construct, no two pieces of which cross.
clear_written : (n m : NestedTree) (r : Result Overlay AllocError) → n ≡ m → IsUncrossed m
    → IfOk r (λ o. IsUncrossed n → o.pairs ≡ nested_writes n) → IfOk r (λ o. o.pairs ≡ nested_writes m)
clear_written n m (Ok o) same clear written = subst (λ k. IsUncrossed k → o.pairs ≡ nested_writes k) same written clear
clear_written n m (Err e) same clear written = tt

pub returns-then-eq : goal.returns-then-eq
returns-then-eq c =
    clear_written (nested_of c.args.pipe.state.nested) (nested_of c.args.nested.now) c.take_all.result
    (ap nested_of (sym c.nested.ensures.same) ∙ c.if-eq.ensures.same.0 refl) c.requires.clear c.take_all.ensures.written

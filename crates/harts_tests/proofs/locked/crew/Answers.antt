use Rattle.std.proofs.Common.{ℕ, suc, zero, ◌<◌, All, List, [], ◌∷◌, length, get_or, sym, subst, arith}
use Rattle.std.proofs.lemmas.List.Elements.{All-append}
use Rattle.hart_loop.specs.Harts.{StartsIn}
use Rattle.harts_tests.proofs.locked.crew.Goals as goal

one : {X : Type 0} (P : X → Type 0) (x : X) → P x → (k : ℕ) (d : X) → k < length (x ∷ []) → P (get_or (x ∷ []) k d)
one P x p zero d below = p
one P x p (suc k) d below = absurd (omega (arith, below))

pub loop-number-preserved : goal.loop-number-preserved
loop-number-preserved g l =
    subst (All (λ hart. StartsIn l.args.shared.now.plan.now hart.port.port.view)) (sym l.in_ok-push.ensures.items)
    (All-append (λ hart. StartsIn l.args.shared.now.plan.now hart.port.port.view) l.loop-number.harts.items (l.in_ok-hart.field-0 ∷ []) l.loop-number.invariant
    (one (λ hart. StartsIn l.args.shared.now.plan.now hart.port.port.view) l.in_ok-hart.field-0 l.in_ok-hart.ensures))

pub returns : goal.returns
returns g c =
    subst (All (λ hart. StartsIn c.args.shared.now.plan.now hart.port.port.view)) (sym c.in_ok-push-2.ensures.items)
    (All-append (λ hart. StartsIn c.args.shared.now.plan.now hart.port.port.view) c.loop-number.harts.items (c.in_ok-hart-2.field-0 ∷ []) c.loop-number.invariant
    (one (λ hart. StartsIn c.args.shared.now.plan.now hart.port.port.view) c.in_ok-hart-2.field-0 c.in_ok-hart-2.ensures))

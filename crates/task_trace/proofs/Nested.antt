-- Events that stay nested.
use Rattle.std.proofs.Common.{◌≡◌, ◌+◌, ◌++◌, ℕ, zero, suc, List, [], ◌∷◌, Some, None, option_map, unwrap_or, ap, arith}
use Rattle.task_trace.specs.declared.event.Event.{Event}
use Rattle.task_trace.specs.declared.event.Event.TheVariants.{Begin, End}
use Rattle.task_trace.specs.Nesting.{running_after}

-- A task begins after the events.
pub more : (running : ℕ) (events : List Event) (left site nanos : ℕ) → running_after running events ≡ Some left
    → running_after running (events ++ Begin site nanos ∷ []) ≡ Some (left + 1)
more running [] left site nanos h = ap (option_map (λ n. n + 1)) h
more running (Begin s t ∷ es) left site nanos h = more (running + 1) es left site nanos h
more zero (End t ∷ es) left site nanos h = ap (option_map (λ n. n + 1)) h
more (suc others) (End t ∷ es) left site nanos h = more others es left site nanos h

-- A task ends after the events.
pub fewer : (running : ℕ) (events : List Event) (left nanos : ℕ) → running_after running events ≡ Some (left + 1)
    → running_after running (events ++ End nanos ∷ []) ≡ Some left
fewer zero [] left nanos h = let e : 0 ≡ left + 1 = ap (λ o. unwrap_or o 0) h in absurd (omega (arith, e))
fewer (suc others) [] left nanos h =
    let e : suc others ≡ left + 1 = ap (λ o. unwrap_or o 0) h in
    let f : others ≡ left = omega (arith, e) in ap Some f
fewer running (Begin s t ∷ es) left nanos h = fewer (running + 1) es left nanos h
fewer zero (End t ∷ es) left nanos h = let e : left + 2 ≡ left + 1 = ap (λ o. unwrap_or o (left + 2)) h in absurd (omega (arith, e))
fewer (suc others) (End t ∷ es) left nanos h = fewer others es left nanos h

-- The order in which waiters leave.
use Rattle.std.proofs.Common.{◌≡◌, List, [], ◌∷◌, ◌++◌, sym, ◌∙◌, subst, append_assoc}
use Rattle.std.proofs.lemmas.List.{append-nil}
use Rattle.lithe_mutex.specs.declared.state.Acquired.TheVariants.{Got, Kept}
use Rattle.lithe_mutex.specs.declared.state.Released.TheVariants as released
use Rattle.lithe_mutex.specs.Mutex.{Possession, Free, Held}
use Rattle.lithe_mutex.specs.Order.{Event, Acquire, Release, Does, Ends, Goes, waiting_at, kept_by, handed_by, kept_in, handed_in, LeaveInOrder}

-- A property of the next mutex holds for one that is equal to it.
there : {T C : Type 0} → (next known : Possession T C) (kept handed left : List C) → next ≡ known →
    waiting_at next ++ kept ≡ handed ++ left → waiting_at known ++ kept ≡ handed ++ left
there {T} {C} next known kept handed left e same = let P : Possession T C → Type 0 = λ m. waiting_at m ++ kept ≡ handed ++ left in subst P e same

step : {T C : Type 0} → (before next : Possession T C) (event : Event T C) (kept handed left : List C) → Does before event next →
    waiting_at next ++ kept ≡ handed ++ left →
    waiting_at before ++ (kept_by event ++ kept) ≡ (handed_by event ++ handed) ++ left
step (Free v) next (Acquire c (Got w back)) kept handed left does same = there next (Held []) kept handed left does.1 same
step (Free v) next (Acquire c Kept) kept handed left does same = let wrong = does.0 in cc
step (Held waiting) next (Acquire c (Got w back)) kept handed left does same = let wrong = does.0 in cc
step (Held waiting) next (Acquire c Kept) kept handed left does same =
    sym (append_assoc waiting (c ∷ []) kept) ∙ there next (Held (waiting ++ c ∷ [])) kept handed left does.1 same
step (Free v) next (Release value answer) kept handed left does same = absurd does
step (Held []) next (Release value released.Free) kept handed left does same = there next (Free value) kept handed left does.1 same
step (Held []) next (Release value (released.Handed given first)) kept handed left does same = let wrong = does.0 in cc
step (Held (f ∷ more)) next (Release value released.Free) kept handed left does same = let wrong = does.0 in cc
step (Held (f ∷ more)) next (Release value (released.Handed given first)) kept handed left does same =
    let is = does.0 in let rest = there next (Held more) kept handed left does.1 same in cc

pub leave_in_order : (T C : Type 0) → LeaveInOrder T C
leave_in_order T C before after _ (Ends m) = append-nil (waiting_at m)
leave_in_order T C before after _ (Goes b next a event rest does runs) =
    step b next event (kept_in rest) (handed_in rest) (waiting_at a) does (leave_in_order T C next a rest runs)

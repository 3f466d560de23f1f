-- Assignments with resolved names, one after another.
use Rattle.std.proofs.Common.{◌≡◌, ℤ, List, [], ◌∷◌, ◌++◌, refl}
use Rattle.array_eval.specs.declared.acts.Act.{Act}
use Rattle.array_eval.specs.Resolved.{after_act, after_acts}
use Rattle.array_eval.specs.Traces.{Trace}

-- One more assignment runs last.
pub after_push : (acts : List Act) (act : Act) (turn : ℤ) (t : Trace) → after_acts (acts ++ act ∷ []) turn t ≡ after_act act turn (after_acts acts turn t)
after_push [] act turn t = refl
after_push (a ∷ acts) act turn t = after_push acts act turn (after_act a turn t)

-- Calls that were made, one after the other.
use Rattle.std.proofs.Common.{◌≡◌, ◌∙◌, ◌++◌, List, [], ◌∷◌, None, Some, ap, subst, sym, append_assoc}
use Rattle.std.proofs.lemmas.List.{append-nil}
use Rattle.serde.specs.Event as serde
use Rattle.serde.specs.Event.{Log, Logs}
use Rattle.task_trace.specs.Chrome.{Grows}

-- No call was made.
pub none : (a : Log) → Grows a a []
none None = tt
none (Some xs) = ap Some (sym (append-nil xs))

-- One call.
pub one : (a b : Log) (e : serde.Event) → Logs a b e → Grows a b (e ∷ [])
one None b e l = tt
one (Some xs) b e l = l

-- Calls after calls.
pub both : (a b c : Log) (es fs : List serde.Event) → Grows a b es → Grows b c fs → Grows a c (es ++ fs)
both None b c es fs g h = tt
both (Some xs) b c es fs g h = subst (λ (l : Log). Grows l c fs) g h ∙ ap Some (append_assoc xs es fs)

-- One call after calls.
pub more : (a b c : Log) (es : List serde.Event) (e : serde.Event) → Grows a b es → Logs b c e → Grows a c (es ++ e ∷ [])
more a b c es e g l = both a b c es (e ∷ []) g (one b c e l)

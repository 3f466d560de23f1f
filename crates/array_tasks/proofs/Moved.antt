-- Machines that go on.
use Rattle.std.proofs.Common.{◌≡◌, List, [], ◌∷◌, Option, Some, sym, ap, subst}
use Rattle.array_meaning.specs.Stores.{Write}
use Rattle.step_eval.specs.declared.stage.Stage.TheVariants.{Going}
use Rattle.step_eval.specs.Rest.{WorkAt}
use Rattle.step_eval.specs.Machines.{Progress, HasMoved, AreAwaited, AreAwaitedBy, next_nest}
use Rattle.step_eval.specs.Nests.{NestedTree, nested_writes}

-- A machine that has moved goes on with its job.
pub moved_on : (rest : List WorkAt) (before after : Progress) → HasMoved rest before after → (after.job ≡ before.job) × (after.stage ≡ Going)
moved_on [] before after h = absurd h
moved_on (w ∷ more) before after h = (ap (λ (m : Progress). m.job) h, ap (λ (m : Progress). m.stage) h)

-- The writes of the next construct are those that the machine awaits.
pub awaited : (machine : Progress) (nested : NestedTree) (written : List Write) → next_nest machine ≡ Some nested → written ≡ nested_writes nested → AreAwaited machine written
awaited machine nested written next is = subst (λ (found : Option NestedTree). AreAwaitedBy found written) (sym next) is

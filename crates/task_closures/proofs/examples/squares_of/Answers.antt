use Rattle.std.proofs.Common.{◌≡◌, ◌*◌, ℕ, rules}
use Rattle.task_closures.proofs.Turns.{AllZip-turn, IfOk-turn}
use Rattle.task_closures.proofs.examples.squares_of.Goals as goal

pub returns : goal.returns
returns g c =
    IfOk-turn c.map_on.result _ _
    (λ v h. AllZip-turn _ (λ n s. s ≡ n * n) (λ n s f. search rules) c.args.numbers.now v.items h)
    c.map_on.ensures.images

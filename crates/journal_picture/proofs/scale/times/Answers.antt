use Rattle.std.proofs.Common.{◌≤◌, ◌*◌, arith}
use Rattle.std.proofs.lemmas.Nat.{mul-le}
use Rattle.journal_picture.proofs.scale.times.Goals as goal

pub overflow_mul-result : goal.overflow_mul-result
overflow_mul-result c =
    let few : c.args.width * c.args.count ≤ 800 * 4294967296 = mul-le c.args.width c.args.count 800 4294967296 c.requires.narrow c.requires.few in
    omega (arith, few)

pub returns-clause-bound : goal.returns-clause-bound
returns-clause-bound c =
    let few : c.args.width * c.args.count ≤ 800 * 4294967296 = mul-le c.args.width c.args.count 800 4294967296 c.requires.narrow c.requires.few in
    omega (arith, few)

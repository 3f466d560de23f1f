use Rattle.std.proofs.Common.{◌≡◌, ℕ, ◌+◌, ap, arith, ⊎_elim}
use Rattle.std.proofs.lemmas.Bool.{cases_lt}
use Rattle.spread_laws.specs.Faults.{any_unshaped}
use Rattle.tally_cells.proofs.Depths.{blocks_same}
use Rattle.tally_cells.proofs.unshaped.one_more.Goals as goal

pub returns : goal.returns
returns c = λ blocks.
    let sum = c.saturating_add.ensures in
    ⊎_elim
    (λ low. let same : c.saturating_add.result ≡ c.args.depth + 1 = omega (arith, sum, low) in ap (λ (d : ℕ). any_unshaped d blocks) same)
    (λ high. blocks_same c.saturating_add.result (c.args.depth + 1) blocks (omega (arith, sum, high)) (omega (arith, high)))
    (cases_lt c.args.depth 255)

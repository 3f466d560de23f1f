use Rattle.std.proofs.Common.{◌≡◌, ℤ, pos, negsuc, ◌<ℤ◌, refl, ap, ◌∙◌, arith, w64}
use Rattle.std.proofs.lemmas.Int.{ints, to_z-of_z}
use Rattle.array_tree.specs.Trees.{Number, Neg, expression_of}
use Rattle.array_meaning.specs.Values.{wrapping_minus}
use Rattle.spread_laws.specs.Spread.{number}
use Rattle.tally_cells.proofs.build.negative.Goals as goal

below_zero : (z : ℤ) → z <ℤ pos 0 → Neg (Number (wrapping_minus z)) ≡ number z
below_zero (pos n) h = absurd (omega (arith, ints, h))
below_zero (negsuc n) h = refl

pub returns : goal.returns
returns c =
    ap (λ e. Neg (expression_of e)) c.in_ok-new.ensures.ok ∙ ap Neg c.negated.ensures
    ∙ ap (λ z. Neg (Number (wrapping_minus z))) (to_z-of_z w64 c.args.value c.ranges.value) ∙ below_zero c.args.value c.requires

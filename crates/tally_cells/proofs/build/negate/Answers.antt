use Rattle.std.proofs.Common.{w64, ◌∙◌}
use Rattle.std.proofs.lemmas.Int.{wrapping_neg_is, to_z-of_z}
use Rattle.tally_cells.proofs.build.negate.Goals as goal

pub returns : goal.returns
returns c =
    to_z-of_z w64 c.wrapping_neg.result (record { sfits = c.wrapping_neg.type_inv }) ∙ c.wrapping_neg.ensures
    ∙ rw (to_z-of_z w64 c.args.value c.ranges.value) (wrapping_neg_is w64 c.args.value c.ranges.value)

-- The surroundings of a position in a program.
-- Only the private contracts and the proofs of this crate need these.
use Rattle.std.specs.Prelude.{ℕ, List, [], ◌∷◌}
use Rattle.disjoint_check.specs.declared.around.Loops.{Loops, Outermost, Within'}

-- The variables of the loops around, the innermost first.
abbrev pub vars_around : Loops → List (List ℕ)
vars_around Outermost = []
vars_around (Within' var place outer) = var.now ∷ vars_around outer

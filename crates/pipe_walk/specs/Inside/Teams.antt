-- The rounds of a `team`.
-- Only the private contracts and the proofs of this crate need these.
use Rattle.std.specs.Prelude.{ℕ, List}
use Rattle.array_tree.specs.Trees.{Sequences}
use Rattle.array_meaning.specs.Stores.{Vars}
use Rattle.array_meaning.specs.Steps.{Steps}
use Rattle.array_meaning.specs.Sites.{phase_rounds}
use Rattle.site_walk.specs.declared.turns.Turns.{Turns}

-- The steps of the members in each phase, of a `team` with this loop and so many members.
abbrev pub team_rounds : Sequences → Turns → ℕ → Vars → List (List Steps)
team_rounds phases turns members = phase_rounds phases turns.var.now turns.low turns.high members

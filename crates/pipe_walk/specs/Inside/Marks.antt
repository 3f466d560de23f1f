-- The marks that a walk through the pieces of a phase makes.
-- Only the private contracts and the proofs of this crate need these.
use Rattle.std.specs.Prelude.{ℕ, ◌+◌, Bool, false, List, [], ◌∷◌, Option, Some, None, ℤ}
use Rattle.array_meaning.specs.Stores.{Arrays, cell_of}
use Rattle.array_meaning.specs.Steps.{Steps}
use Rattle.array_meaning.specs.Touch.{Visit}
use Rattle.array_eval.specs.Layouts.{number_of}
use Rattle.site_walk.specs.Visits.{after}
use Rattle.pipe_walk.specs.Inside.Members.{touch_by}
use Rattle.pipe_walk.specs.Inside.Tables.{TableParts, added}

-- The table with a member's visit of an array by an index.
abbrev pub with_touch : Arrays → ℕ → Bool → List ℕ → Option ℤ → TableParts → TableParts
with_touch arrays member writes array None table =
    record table { everywhere = added (number_of arrays array) (touch_by member writes) table.everywhere }
with_touch arrays member writes array (Some index) table =
    record table { cells = added (cell_of arrays array false index) (touch_by member writes) table.cells }

-- The table with a visit of a member.
abbrev pub with_visit : Arrays → ℕ → TableParts → Visit → TableParts
with_visit arrays member table v = with_touch arrays member v.writes v.array v.index table

-- The table with all that a member does.
abbrev pub with_piece : Arrays → ℕ → Steps → TableParts → TableParts
with_piece arrays member steps table = after (with_visit arrays member) arrays steps table

-- The table with all that members do, numbered from one on.
abbrev pub with_pieces : Arrays → ℕ → List Steps → TableParts → TableParts
with_pieces arrays member [] table = table
with_pieces arrays member (steps ∷ more) table =
    with_pieces arrays (member + 1) more (with_piece arrays member steps table)

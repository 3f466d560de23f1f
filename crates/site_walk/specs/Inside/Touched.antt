-- What the pieces of a round do to a cell.
-- Only the private contracts and the proofs of this crate need these.
use Rattle.std.specs.Prelude.{ℕ, cond, Bool, true, false, ◌&&◌, ◌||◌, nat_eq, List, slice_index_or}
use Rattle.site_walk.specs.declared.touched.Pieces.{Pieces}
use Rattle.site_walk.specs.declared.touched.Pieces.TheVariants.{NoPiece, One, Several}
use Rattle.site_walk.specs.declared.touched.Touched.{Touched}

-- The pieces of both sets.
abbrev pub joined_pieces : Pieces → Pieces → Pieces
joined_pieces NoPiece other = other
joined_pieces (One p) NoPiece = One p
joined_pieces (One p) (One q) = cond (nat_eq p q) (One p) Several
joined_pieces (One p) Several = Several
joined_pieces Several other = Several

-- The test is true if more than one piece touched.
abbrev pub are_several : Pieces → Bool
are_several NoPiece = false
are_several (One p) = false
are_several Several = true

-- The touches of both.
abbrev pub joined : Touched → Touched → Touched
joined a b = record { by = joined_pieces a.by b.by; written = a.written || b.written }

-- The test decides whether two pieces touched the cell, of which one wrote.
abbrev pub clashes : Touched → Bool
clashes t = t.written && are_several t.by

-- No piece touched the cell.
abbrev pub untouched : Touched
untouched = record { by = NoPiece; written = false }

-- The touch at an index of a list; none after its end.
abbrev pub touched_at : List Touched → ℕ → Touched
touched_at layer place = slice_index_or layer place untouched

-- The meaning of a mark in a round.
-- Only the private contracts and the proofs of this crate need these.
use Rattle.std.specs.Prelude.{ℕ, ◌≤◌, cond, nat_eq}
use Rattle.site_walk.specs.declared.layer.Mark.{Mark}
use Rattle.site_walk.specs.declared.touched.Touched.{Touched}
use Rattle.site_walk.specs.Inside.Touched.{untouched}

-- The touch of a mark in a round: a mark of another round has none.
abbrev pub done_in : ℕ → Mark → Touched
done_in round mark = cond (nat_eq mark.round round) mark.touched untouched

-- The mark is of this round or an earlier one.
abbrev pub IsUpTo : ℕ → Mark → Type 0
IsUpTo round mark = mark.round ≤ round

-- Sets of sites, each a list with a flag for the base and for each site.
use Rattle.std.specs.Prelude.{Bool, ◌||◌, List, [], ◌∷◌}

-- The sites of either set.
abbrev pub union : List Bool → List Bool → List Bool
union [] bs = bs
union (a ∷ more) [] = a ∷ more
union (a ∷ more) (b ∷ bs) = (a || b) ∷ union more bs

use Rattle.site_walk.proofs.ApartLemmas.{apart_of_none, none_of_apart}
use Rattle.site_walk.proofs.laws.overlaps_are_found.Goals as goal

pub returns : goal.returns
returns c program known inside = (apart_of_none program known inside, none_of_apart program)

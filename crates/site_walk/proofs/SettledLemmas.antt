-- Parts that need no walk: pieces and sites that are apart.
use Rattle.std.proofs.Common.{◌≡◌, ℕ, false, List, [], ◌∷◌, None, refl, ap, ◌∙◌}
use Rattle.std.specs.Option.{option_or}
use Rattle.array_meaning.specs.Stores.{Arrays, cells_of}
use Rattle.array_meaning.specs.Steps.{Steps}
use Rattle.array_meaning.specs.Touch.{IsApart}
use Rattle.array_meaning.specs.Overlap.{overlaps, overlap}
use Rattle.array_meaning.specs.Sites.{Site, AreRoundsApart, AreSitesApart}
use Rattle.array_meaning.proofs.OverlapLemmas.{clear_of_apart}
use Rattle.site_walk.specs.FirstOverlap.{cell_fault, rounds_fault, site_overlap}
use Rattle.site_walk.specs.Firsts.{first_of}
use Rattle.site_walk.proofs.PieceLemmas.{first_none}

-- Pieces that are apart overlap on no cell.
pub apart_overlap : (arrays : Arrays) (cells : ℕ) (pieces : List Steps) → IsApart arrays pieces → overlap arrays cells pieces ≡ None
apart_overlap arrays cells pieces apart = first_none (overlaps arrays false false pieces) 0 cells (λ c small. clear_of_apart arrays pieces apart c)

rounds_none : (arrays : Arrays) (line : ℕ) (rounds : List (List Steps)) → AreRoundsApart arrays rounds → rounds_fault arrays line rounds ≡ None
rounds_none arrays line [] apart = refl
rounds_none arrays line (round ∷ more) apart =
    ap (λ o. option_or (cell_fault line o) (rounds_fault arrays line more)) (apart_overlap arrays (cells_of arrays) round apart.0) ∙ rounds_none arrays line more apart.1

pub sites_none : (arrays : Arrays) (sites : List Site) → AreSitesApart arrays sites → first_of (site_overlap arrays) sites ≡ None
sites_none arrays [] apart = refl
sites_none arrays (site ∷ more) apart =
    ap (λ f. option_or f (first_of (site_overlap arrays) more)) (rounds_none arrays site.line site.rounds apart.0) ∙ sites_none arrays more apart.1

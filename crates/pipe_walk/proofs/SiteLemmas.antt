-- An earlier crossing, or that of a site.
use Rattle.std.proofs.Common.{◌≡◌, ℕ, List, [], ◌∷◌, Option, Some, None, false, refl, sym, ap, ◌∙◌}
use Rattle.std.specs.Option.{option_or, option_map, is_some}
use Rattle.std.proofs.lemmas.Bool.{false≢true}
use Rattle.array_meaning.specs.Stores.{Arrays, cells_of}
use Rattle.array_meaning.specs.Steps.{Steps}
use Rattle.array_meaning.proofs.LastLemmas.{or_none}
use Rattle.site_walk.specs.Firsts.{or_first}
use Rattle.site_walk.proofs.PieceLemmas.{first_none}
use Rattle.phase_order.specs.Tests.{crosses}
use Rattle.pipe_walk.specs.declared.fault.PipeFault.{PipeFault}
use Rattle.pipe_walk.specs.declared.fault.PipeFault.TheVariants.{Crossing}
use Rattle.pipe_walk.specs.FirstCrossing.{site_crossing}

pub keep_cell : (found : Option PipeFault) (line cell : ℕ) (o : Option ℕ) → is_some found ≡ false → o ≡ Some cell →
    Some (Crossing line cell) ≡ option_or found (option_map (Crossing line) o)
keep_cell None line cell o h e = sym (ap (option_map (Crossing line)) e)
keep_cell (Some f) line cell o h e = absurd (false≢true (sym h))

pub keep_none : (found : Option PipeFault) (line : ℕ) (o : Option ℕ) → o ≡ None → found ≡ option_or found (option_map (Crossing line) o)
keep_none None line o e = sym (ap (option_map (Crossing line)) e)
keep_none (Some f) line o e = refl

-- A `par` has one phase and no crossing.
par_clear : (arrays : Arrays) (line : ℕ) (round : List Steps) → site_crossing arrays (record { line = line; rounds = round ∷ [] }) ≡ None
par_clear arrays line round =
    ap (option_map (Crossing line)) (first_none (λ cell. crosses arrays cell 0 0 (round ∷ [])) 0 (cells_of arrays) (λ c small. refl))

pub par_adds_nothing : (arrays : Arrays) (line : ℕ) (round : List Steps) (found : Option PipeFault) →
    or_first (site_crossing arrays) found (record { line = line; rounds = round ∷ [] }) ≡ found
par_adds_nothing arrays line round found = ap (option_or found) (par_clear arrays line round) ∙ or_none found

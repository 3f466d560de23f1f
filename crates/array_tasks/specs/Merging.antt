-- The writes of several tasks.
use Rattle.std.specs.Prelude.{List, [], ◌∷◌, ◌++◌}
use Rattle.array_meaning.specs.Stores.{Write}
use Rattle.array_eval.specs.Overlays.{Laid}

-- The writes in overlays, one overlay after another.
abbrev pub writes_in : List Laid → List Write
writes_in [] = []
writes_in (laid ∷ more) = laid.pairs ++ writes_in more

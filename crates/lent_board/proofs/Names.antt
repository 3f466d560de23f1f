-- Tables with the same name are equal.
use Rattle.std.proofs.Common.{◌≡◌, ℕ, List, [], ◌∷◌, ap}
use Rattle.atomic_table.specs.Seated.{TableId}
use Rattle.lent_board.specs.PortViews.{table_name}

-- The table of a name.
abbrev of_name : List ℕ → TableId
of_name (w ∷ s ∷ v ∷ a ∷ b ∷ o ∷ names) = record { words = w; slots = s; views_name = v; atom = a; block = b; offset = o; slot_names = names }
of_name _ = record { words = 0; slots = 0; views_name = 0; atom = 0; block = 0; offset = 0; slot_names = [] }

pub same_table : (y z : TableId) → table_name y ≡ table_name z → y ≡ z
same_table y z e = ap of_name e

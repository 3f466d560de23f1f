-- The name that no board has.
use Rattle.std.specs.Prelude.{[]}
use Rattle.atomic_table.specs.Seated.{TableId}
use Rattle.open_table.specs.declared.table.Size.{Size}

-- The words of no board.
abbrev pub no_table : TableId
no_table = record { words = 0; slots = 0; views_name = 0; atom = 0; block = 0; offset = 0; slot_names = [] }

-- The size of no board.
abbrev pub no_size : Size
no_size = record { harts = 0; levels = 0 }

-- A planned run whose sites are numbered in the order of their Registers, as the plan of an open run numbers them.
use Rattle.std.specs.Prelude.{◌+◌, List, [], ◌∷◌}
use Rattle.transfer_table.specs.declared.entry.Entry.{Entry}
use Rattle.transfer_table.specs.declared.entry.Entry.TheVariants.{Register, Request, Enter, Yield, Unregister, Skip}
use Rattle.open_table.specs.Table.{put}
use Rattle.table_laws.specs.Planned.{Numbering, no_sites}

-- The numbering of the plan's sites after a transfer: a Register gives its site the next number.
abbrev pub counted : Entry → Numbering → Numbering
counted (Register h s) n = record { count = n.count + 1; number = put s (n.count + 1) n.number }
counted _ n = n

-- The transfer with its site's number.
abbrev pub renumbered : Entry → Numbering → Entry
renumbered (Register h s) n = Register h (n.count + 1)
renumbered (Request h s k) n = Request h (n.number s) k
renumbered (Enter h s) n = Enter h (n.number s)
renumbered (Yield h s) n = Yield h (n.number s)
renumbered (Unregister h s) n = Unregister h (n.number s)
renumbered (Skip h s) n = Skip h (n.number s)

-- The transfers with these numbers, from a numbering on.
abbrev pub in_order_from : Numbering → List Entry → List Entry
in_order_from n [] = []
in_order_from n (e ∷ es) = renumbered e n ∷ in_order_from (counted e n) es

-- The run with its sites numbered in the order of their Registers.
abbrev pub in_order : List Entry → List Entry
in_order es = in_order_from no_sites es

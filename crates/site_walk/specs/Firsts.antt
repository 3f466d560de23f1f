-- The first fault of a list.
use Rattle.std.specs.Prelude.{List, [], ◌∷◌, Option, None}
use Rattle.std.specs.Option.{option_or}

-- The fault of the first item that has one.
abbrev pub first_of : {Item Fault : Type 0} → (Item → Option Fault) → List Item → Option Fault
first_of fault_of [] = None
first_of fault_of (item ∷ more) = option_or (fault_of item) (first_of fault_of more)

-- An earlier fault, or else that of an item.
abbrev pub or_first : {Item Fault : Type 0} → (Item → Option Fault) → Option Fault → Item → Option Fault
or_first fault_of found item = option_or found (fault_of item)

-- An earlier fault, or else that of the first item that has one.
abbrev pub or_first_of : {Item Fault : Type 0} → (Item → Option Fault) → List Item → Option Fault → Option Fault
or_first_of fault_of items found = option_or found (first_of fault_of items)

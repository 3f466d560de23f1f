-- What contracts see of lines that are borrowed from a text, and of a result that may be an allocation failure.
use Rattle.std.specs.Prelude.{◌≡◌, Result, Ok, Err}
use Rattle.journal_text.specs.declared.row.Deed.{Deed}
use Rattle.journal_text.specs.declared.row.Deed.TheVariants as deed
use Rattle.journal_text.specs.declared.row.Row.{Row}
use Rattle.journal_text.specs.declared.fault.TextFault.{TextFault}
use Rattle.journal_text.specs.declared.fault.TextFault.TheVariants as fault
use Rattle.journal_text.specs.Reading as reading

-- The view that contracts have of an act.
abbrev pub deed_seen : Deed → reading.Deed
deed_seen (deed.Registers around) = reading.registers around.now
deed_seen (deed.Requests count) = reading.requests count.now
deed_seen deed.Enters = reading.enters
deed_seen deed.Yields = reading.yields
deed_seen deed.Unregisters = reading.unregisters
deed_seen deed.Skips = reading.skips

-- The view that contracts have of a row.
abbrev pub row_seen : Row → reading.Row
row_seen row = reading.row_with row.place.now row.hart.now row.site.now (deed_seen row.deed)

-- The result is the expected one, or an allocation failure.
abbrev pub Reads : {A B : Type 0} → (A → B) → Result B TextFault → Result A TextFault → Type 0
Reads seen wanted (Ok x) = wanted ≡ Ok (seen x)
Reads seen wanted (Err fault.Memory) = Unit {0}
Reads seen wanted (Err why) = wanted ≡ Err why

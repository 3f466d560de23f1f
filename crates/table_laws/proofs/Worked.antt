-- The worked example.
use Rattle.std.proofs.Common.{refl, arith, List, [], ◌∷◌}
use Rattle.open_table.specs.declared.table.Entry.{Entry}
use Rattle.open_table.specs.Table.{TableState, first_state, after, Leads}
use Rattle.table_laws.specs.Example.{two_harts, open_run, IsWorkedExample}

-- The state after the entries.
abbrev after_all : TableState → List Entry → TableState
after_all t [] = t
after_all t (e ∷ es) = after_all (after t e) es

allowed : Leads two_harts first_state open_run (after_all first_state open_run)
allowed = search arith

pub worked_example : IsWorkedExample
worked_example = ((after_all first_state open_run, allowed), refl, refl)

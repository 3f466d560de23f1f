-- A worked example: a run of two harts, as the open table has it and in its plan.
use Rattle.std.specs.Prelude.{◌≡◌, ℕ, List, [], ◌∷◌}
use Rattle.transfer_table.specs.declared.entry.Entry.{Entry}
use Rattle.transfer_table.specs.declared.entry.Entry.TheVariants.{Register, Request, Enter, Yield, Unregister}
use Rattle.open_table.specs.declared.table.Size.{Size}
use Rattle.open_table.specs.declared.table.Act.{Act}
use Rattle.open_table.specs.declared.table.Act.TheVariants as act
use Rattle.open_table.specs.declared.table.Entry.{Entry as OpenEntry}
use Rattle.open_table.specs.Table.{TableState as OpenState, Reaches}
use Rattle.table_laws.specs.Planned.{plan_of_run, planned}

-- Two harts, each of which may be the home of two sites at once: sites 1 and 2 are hart 0's, 3 and 4 hart 1's.
abbrev pub two_harts : Size
two_harts = record { harts = 2; levels = 2 }

-- An entry of a hart.
abbrev pub by : ℕ → Act → OpenEntry
by h a = record { hart = h; act = a }

-- Hart 0 opens site 1 and, inside it, site 2. Hart 1 enters site 1 and opens site 3 there. All sites end. Then hart 0 opens site 1
-- again, and withdraws its wish.
abbrev pub open_run : List OpenEntry
open_run =
    by 0 (act.Register 1)
    ∷ by 0 (act.Request 1 1)
    ∷ by 0 (act.Register 2)
    ∷ by 0 (act.Request 2 1)
    ∷ by 1 (act.Enter 1)
    ∷ by 1 (act.Register 3)
    ∷ by 1 (act.Request 3 1)
    ∷ by 1 (act.Close 3)
    ∷ by 1 (act.SeeEmpty 3)
    ∷ by 1 (act.Unregister 3)
    ∷ by 0 (act.Close 2)
    ∷ by 0 (act.SeeEmpty 2)
    ∷ by 0 (act.Unregister 2)
    ∷ by 0 (act.Close 1)
    ∷ by 1 (act.Yield 1)
    ∷ by 0 (act.SeeEmpty 1)
    ∷ by 0 (act.Unregister 1)
    ∷ by 0 (act.Register 1)
    ∷ by 0 (act.Request 1 1)
    ∷ by 0 (act.Withdraw 1 1)
    ∷ by 0 (act.Close 1)
    ∷ by 0 (act.SeeEmpty 1)
    ∷ by 0 (act.Unregister 1)
    ∷ []

-- The same run in its plan: the second site 1 is site 4.
abbrev pub planned_run : List Entry
planned_run =
    Register 0 1
    ∷ Request 0 1 1
    ∷ Register 0 2
    ∷ Request 0 2 1
    ∷ Enter 1 1
    ∷ Register 1 3
    ∷ Request 1 3 1
    ∷ Unregister 1 3
    ∷ Unregister 0 2
    ∷ Yield 1 1
    ∷ Unregister 0 1
    ∷ Register 0 4
    ∷ Request 0 4 1
    ∷ Unregister 0 4
    ∷ []

-- The open table allows the run. Its plan has sites 1 and 4 below the base, and sites 2 and 3 below site 1.
abbrev pub IsWorkedExample : Type 0
IsWorkedExample = ((t : OpenState) × Reaches two_harts open_run t)
    × (plan_of_run two_harts open_run ≡ record { harts = 2; parents = 0 ∷ 1 ∷ 1 ∷ 0 ∷ [] })
    × (planned open_run ≡ planned_run)

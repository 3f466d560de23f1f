-- A table that keeps its journal.
use Rattle.std.specs.Prelude.{◌≡◌, ℕ, ◌+◌, ◌≤◌, Bool, false, List, [], ◌∷◌, ◌++◌, length, replicate, Result, Ok, Err}
use Rattle.transfer_table.specs.Plan.{Plan, IsPlan, room, site_count}
use Rattle.transfer_table.specs.Table.{TableState, admit_of, effect_of, first_state}
use Rattle.transfer_table.specs.Journal.{Reaches}
use Rattle.transfer_table.specs.declared.entry.Entry.{Entry}
use Rattle.transfer_table.specs.declared.entry.NotAdmitted.{NotAdmitted}

-- What contracts see of a ledger.
pub record LedgerState : Type 0 where
  pub plan : Plan
  pub state : TableState
  -- The entries that were admitted, in order.
  pub entries : List Entry
  -- The sites that were marked as closing, a flag for the base and for each site.
  pub closing : List Bool

-- The invariant of a ledger: the state is the replay of the entries, no entry is refused, and each site has its flag.
pub record IsLedger (l : LedgerState) : Type 0 where
  pub plan : IsPlan l.plan
  pub reached : Reaches l.plan l.entries l.state
  pub closing : length l.closing ≡ site_count l.plan + 1

-- The ledger has room for all entries that its plan allows.
pub record IsRoomy (l : LedgerState) (capacity : ℕ) : Type 0 where
  pub ledger : IsLedger l
  pub enough : room l.plan ≤ capacity

-- The set without any site.
abbrev pub no_site : Plan → List Bool
no_site p = replicate (site_count p + 1) false

-- The ledger of a plan before any entry.
abbrev pub first_ledger : Plan → LedgerState
first_ledger p = record { plan = p; state = first_state p; entries = []; closing = no_site p }

-- The table admits the entry and the ledger appends the entry, or the table refuses the entry and the ledger is unchanged.
abbrev pub Admits : LedgerState → Entry → Result (Unit {0}) NotAdmitted → LedgerState → Type 0
Admits l e (Ok done) after =
    (admit_of l.plan l.state e ≡ Ok after.state)
    × (after ≡ record l { state = after.state; entries = l.entries ++ e ∷ [] })
Admits l e (Err why) after = (admit_of l.plan l.state e ≡ Err why) × (after ≡ l)

-- The ledger after an entry that the table admits.
abbrev pub with_entry : LedgerState → Entry → LedgerState
with_entry l e = record l { state = effect_of l.plan l.state e; entries = l.entries ++ e ∷ [] }

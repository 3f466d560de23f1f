-- The replay of a list of entries, and what is legal and complete.
use Rattle.std.specs.Prelude.{◌≡◌, ℕ, ◌+◌, ◌-◌, nat_le, Bool, true, false, not, if◌then◌else◌, List, [], ◌∷◌, length, replicate, slice_index_or, Option, Some, None, Result, Ok, Err}
use Rattle.std.specs.Option.{option_map}
use Rattle.transfer_table.specs.Causes.{first_cause}
use Rattle.transfer_table.specs.Plan.{Plan, IsSite, site_count}
use Rattle.transfer_table.specs.Entry.{registers}
use Rattle.transfer_table.specs.Table.{TableState, admit_of, first_state, row, is_gone}
use Rattle.transfer_table.specs.declared.entry.Row.{Row}
use Rattle.transfer_table.specs.declared.entry.Entry.{Entry}
use Rattle.transfer_table.specs.declared.entry.Stage.TheVariants.{Gone}
use Rattle.transfer_table.specs.declared.entry.NotAdmitted.{NotAdmitted}
use Rattle.transfer_table.specs.declared.fault.Fault.{Fault}
use Rattle.transfer_table.specs.declared.fault.Why.{Why}
use Rattle.transfer_table.specs.declared.fault.Why.TheVariants.{Refused, Unfinished, Unmeant}

-- The result of one more step after a success; an error is kept.
abbrev pub and_then : {A B E : Type 0} → (A → Result B E) → Result A E → Result B E
and_then f (Ok x) = f x
and_then f (Err e) = Err e

-- The state after the entries, from a state on, or the first refusal.
abbrev pub replay_from : Plan → TableState → List Entry → Result TableState NotAdmitted
replay_from p t [] = Ok t
replay_from p t (e ∷ es) = and_then (λ u. replay_from p u es) (admit_of p t e)

-- The state after the entries, or the first refusal.
abbrev pub replay : Plan → List Entry → Result TableState NotAdmitted
replay p es = replay_from p (first_state p) es

-- No entry is refused, and the entries lead to this state.
abbrev pub Reaches : Plan → List Entry → TableState → Type 0
Reaches p es t = replay p es ≡ Ok t

-- No entry is refused.
abbrev pub IsLegal : Plan → List Entry → Type 0
IsLegal p es = (t : TableState) × Reaches p es t

-- Every site is gone.
abbrev pub AllGone : Plan → TableState → Type 0
AllGone p t = (s : ℕ) → IsSite p s → (row t s).stage ≡ Gone

-- Whether a site is meant to be entered, by a list with the flag of site s at index s - 1.
abbrev pub is_meant : List Bool → ℕ → Bool
is_meant meant s = slice_index_or meant (s - 1) false

-- The flags by which all sites of the plan are meant.
abbrev pub all_meant : Plan → List Bool
all_meant p = replicate (site_count p) true

-- Whether the list has a Register of the site.
abbrev pub has_register : List Entry → ℕ → Bool
has_register es s = nat_le 1 (registers s es)

-- The sites that have a Register in the list are exactly the meant ones.
abbrev pub AreMeant : Plan → List Bool → List Entry → Type 0
AreMeant p meant es = (s : ℕ) → IsSite p s → has_register es s ≡ is_meant meant s

-- No entry is refused, at the end every site is gone, and the sites that have a Register are exactly the meant ones.
abbrev pub IsComplete : Plan → List Bool → List Entry → Type 0
IsComplete p meant es = (t : TableState) × Reaches p es t × AllGone p t × AreMeant p meant es

-- The least site, from k on, that isn't gone. The list has the rows from site k on.
abbrev pub unfinished : List Row → ℕ → Option ℕ
unfinished [] k = None
unfinished (r ∷ rs) k = if is_gone r.stage then unfinished rs (k + 1) else Some k

-- The least site, from k on, that is registered and not meant, or meant and not registered. The list has the flags from site k on.
abbrev pub unmeant : (ℕ → Bool) → List Bool → ℕ → Option Why
unmeant registered [] k = None
unmeant registered (m ∷ ms) k =
    if (if registered k then m else not m) then unmeant registered ms (k + 1)
    else Some (Unmeant k (registered k))

-- Why a list that leads to this state, with these registered sites, isn't complete: the least site that isn't gone. If all sites
-- are gone, the least site that is registered and not meant, or meant and not registered.
abbrev pub lacks : List Bool → (ℕ → Bool) → TableState → Option Why
lacks meant registered t = first_cause
    (option_map Unfinished (unfinished t.rows 1)
    ∷ unmeant registered meant 1
    ∷ [])

-- The result of the next step if the table admits the entry at index k; else the refusal as a fault.
abbrev pub or_refused : ℕ → (TableState → Option Fault) → Result TableState NotAdmitted
    → Option Fault
or_refused k f (Ok u) = f u
or_refused k f (Err why) = Some record { place = k; why = Refused why }

-- The fault of the first refused entry from a state on. The first entry of the list has index k.
abbrev pub refused_from : Plan → TableState → List Entry → ℕ → Option Fault
refused_from p t [] k = None
refused_from p t (e ∷ es) k = or_refused k (λ u. refused_from p u es (k + 1)) (admit_of p t e)

-- Why a list without a refused entry isn't complete, as a fault at the index after the last entry.
abbrev pub lacking : List Bool → List Entry → Result TableState NotAdmitted → Option Fault
lacking meant es (Ok t) = option_map (λ why. record { place = length es; why = why })
    (lacks meant (has_register es) t)
lacking meant es (Err why) = None

-- The first fault of a list: the index and the refusal of the first refused entry. If no entry is refused, the list's length and
-- the reason why the list isn't complete. Nothing for a complete list.
abbrev pub first_fault_of : Plan → List Bool → List Entry → Option Fault
first_fault_of p meant es = first_cause
    (refused_from p (first_state p) es 0
    ∷ lacking meant es (replay p es)
    ∷ [])

-- When the table admits an entry, as a list of conditions.
use Rattle.std.specs.Prelude.{◌≡◌, ◌≢◌, ℕ, ◌+◌, ◌-◌, ◌≤◌, Some}
use Rattle.transfer_table.specs.Plan.{Plan, IsHart, IsSite, parent}
use Rattle.transfer_table.specs.Table.{TableState, owner, row}
use Rattle.transfer_table.specs.declared.entry.Stage.TheVariants.{New, Live, Gone}
use Rattle.transfer_table.specs.declared.entry.Entry.{Entry}
use Rattle.transfer_table.specs.declared.entry.Entry.TheVariants.{Register, Request, Enter, Yield, Unregister, Skip}

-- No other hart's owner is the site.
abbrev pub IsAlone : Plan → TableState → ℕ → ℕ → Type 0
IsAlone p t h s = (g : ℕ) → IsHart p g → g ≢ h → owner t g ≢ s

-- Every child of the site is gone.
abbrev pub ChildrenGone : Plan → TableState → ℕ → Type 0
ChildrenGone p t s = (c : ℕ) → IsSite p c → parent p c ≡ s → (row t c).stage ≡ Gone

-- The entry is allowed in the state.
abbrev pub IsAllowed : Plan → TableState → Entry → Type 0
IsAllowed p t (Register h s) =
    IsHart p h × IsSite p s × (owner t h ≡ parent p s) × ((row t s).stage ≡ New)
IsAllowed p t (Request h s k) =
    IsHart p h × IsSite p s × (owner t h ≡ s) × ((row t s).home ≡ Some h) × (1 ≤ k)
    × ((row t s).asked + k ≤ p.harts - 1)
IsAllowed p t (Enter h s) =
    IsHart p h × IsSite p s × (owner t h ≡ parent p s) × ((row t s).stage ≡ Live)
    × (1 ≤ (row t s).wishes)
IsAllowed p t (Yield h s) = IsHart p h × IsSite p s × (owner t h ≡ s) × ((row t s).home ≢ Some h)
IsAllowed p t (Unregister h s) =
    IsHart p h × IsSite p s × (owner t h ≡ s) × ((row t s).home ≡ Some h) × IsAlone p t h s
    × ChildrenGone p t s
IsAllowed p t (Skip h s) =
    IsHart p h × IsSite p s × (owner t h ≡ parent p s) × ((row t s).stage ≡ New)

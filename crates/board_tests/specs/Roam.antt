-- Harts that go from site to site of a plan, by their ports.
use Rattle.std.specs.Prelude.{◌≡◌, ◌≢◌, ℕ, ◌≤◌, ◌<◌, true, false}
use Rattle.transfer_table.specs.Plan.{Plan, parent}
use Rattle.hart_port.specs.PortView.{PortView, is_in}

-- It is the same hart of the same plan, and shares the same table.
pub record IsSameHart (v w : PortView) : Type 0 where
  pub plan : w.plan ≡ v.plan
  pub hart : w.hart ≡ v.hart
  pub table : w.table ≡ v.table

-- The hart is the home of no site after its owner. A site comes after its parent, since its number is greater.
abbrev pub HasNoHomeBehind : PortView → Type 0
HasNoHomeBehind v = (c : ℕ) → v.owner < c → is_in v.homes c ≡ false

-- The hart of the plan is in the base, and the home of no site.
pub record IsNew (p : Plan) (v : PortView) : Type 0 where
  pub plan : v.plan ≡ p
  pub base : v.owner ≡ 0
  pub homeless : HasNoHomeBehind v

-- The hart has the same owner, is the home of the same sites, and has closed the same sites up to its owner.
pub record IsBack (v w : PortView) : Type 0 where
  pub same : IsSameHart v w
  pub owner : w.owner ≡ v.owner
  pub homes : (c : ℕ) → is_in w.homes c ≡ is_in v.homes c
  pub closed : (c : ℕ) → c ≤ v.owner → is_in w.closed c ≡ is_in v.closed c

-- The hart has only read words: the sites that it has seen gone stay so.
pub record HasLooked (v w : PortView) : Type 0 where
  pub same : IsSameHart v w
  pub owner : w.owner ≡ v.owner
  pub homes : w.homes ≡ v.homes
  pub closed : w.closed ≡ v.closed
  pub gone : (c : ℕ) → is_in v.gone c ≡ true → is_in w.gone c ≡ true

-- The hart has left its owner for the owner's parent, and isn't its home.
pub record HasLeft (v w : PortView) : Type 0 where
  pub same : IsSameHart v w
  pub owner : w.owner ≡ parent v.plan v.owner
  pub own : is_in w.homes v.owner ≡ false
  pub homes : (c : ℕ) → c ≢ v.owner → is_in w.homes c ≡ is_in v.homes c
  pub closed : (c : ℕ) → c ≢ v.owner → is_in w.closed c ≡ is_in v.closed c

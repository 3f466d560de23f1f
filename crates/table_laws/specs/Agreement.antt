-- When a state of the planned table and one of the open table are the same, but for the sites' numbers.
use Rattle.std.specs.Prelude.{◌≡◌, ◌≢◌, ℕ, ◌+◌, ◌<◌, ◌≤◌, true, Some}
use Rattle.transfer_table.specs.Plan.{Plan, IsSite, parent, site_count}
use Rattle.transfer_table.specs.Table.{TableState, owner, row}
use Rattle.transfer_table.specs.declared.entry.Stage.TheVariants.{New, Live}
use Rattle.open_table.specs.declared.table.Size.{Size}
use Rattle.open_table.specs.Table.{TableState as OpenState, Row as OpenRow, owner as top_site}
use Rattle.table_laws.specs.Planned.{Numbering}

-- The base is 0, each live site has the number of one of the run's sites, and no two live sites have one number.
pub record HasNumbers (t : OpenState) (n : Numbering) : Type 0 where
  pub base : n.number 0 ≡ 0
  pub known : (x : ℕ) → (t.rows x).live ≡ true → (1 ≤ n.number x) × (n.number x ≤ n.count)
  pub apart : (x y : ℕ) → (t.rows x).live ≡ true → (t.rows y).live ≡ true → n.number x ≡ n.number y → x ≡ y

-- Site s of the plan is live, with the home and the parent of this row of the open table, and at least its wishes. It has more if
-- the home withdrew some.
pub record IsAlike (p : Plan) (u : TableState) (n : Numbering) (r : OpenRow) (s : ℕ) : Type 0 where
  pub live : (row u s).stage ≡ Live
  pub home : (row u s).home ≡ Some r.home
  pub parent : parent p s ≡ n.number r.parent
  pub wishes : r.asked ≤ r.entered + (row u s).wishes

-- State u of the plan's table agrees with state t of the open table: each hart has the same owner, and the same sites are live.
pub record Agrees (z : Size) (t : OpenState) (n : Numbering) (p : Plan) (u : TableState) : Type 0 where
  pub numbers : HasNumbers t n
  pub owners : (h : ℕ) → h < z.harts → owner u h ≡ n.number (top_site (t.stacks h))
  pub live : (x : ℕ) → (t.rows x).live ≡ true → IsAlike p u n (t.rows x) (n.number x)
  pub others : (s : ℕ) → IsSite p s → (row u s).stage ≡ Live → (x : ℕ) × ((t.rows x).live ≡ true) × (n.number x ≡ s)

-- The sites of the plan that aren't new are those that the run has registered so far.
pub record AreBegun (n : Numbering) (p : Plan) (u : TableState) : Type 0 where
  pub begun : (s : ℕ) → IsSite p s → s ≤ n.count → (row u s).stage ≢ New
  pub new : (s : ℕ) → IsSite p s → n.count < s → (row u s).stage ≡ New

-- The states agree if each live site of the open table is some site of the plan.
abbrev pub AgreesIn : Size → OpenState → Plan → TableState → Type 0
AgreesIn z t p u = (site : ℕ → ℕ) × Agrees z t record { count = site_count p; number = site } p u

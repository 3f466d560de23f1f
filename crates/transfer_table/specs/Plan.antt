-- A plan: how many harts there are, and the tree of the sites.
use Rattle.std.specs.Prelude.{ℕ, zero, suc, Bool, ◌+◌, ◌-◌, ◌*◌, ◌<◌, ◌≤◌, ◌==◌, nat_le, nat_lt, ◌||◌, if◌then◌else◌, List, [], ◌∷◌, length, slice_index, Option, Some, None}
use Rattle.std.specs.Option.{option_map}
use Rattle.transfer_table.specs.Causes.{cause_if, first_cause}
use Rattle.transfer_table.specs.declared.plan.PlanFault.{PlanFault}
use Rattle.transfer_table.specs.declared.plan.PlanFault.TheVariants as fault

-- The number of harts, and the parent of each site, that of site s at index s - 1. Site 0 is the base.
pub record Plan : Type 0 where
  pub harts : ℕ
  pub parents : List ℕ

-- The number of a plan's sites.
abbrev pub site_count : Plan → ℕ
site_count p = length p.parents

-- The parent of a site; 0 if the plan has no such site.
abbrev pub parent : Plan → ℕ → ℕ
parent p s = slice_index p.parents (s - 1)

-- The number is that of a hart of the plan. Harts are numbered from 0.
abbrev pub IsHart : Plan → ℕ → Type 0
IsHart p h = h < p.harts

-- The number is that of a site of the plan. Sites are numbered from 1.
abbrev pub IsSite : Plan → ℕ → Type 0
IsSite p s = (1 ≤ s) × (s ≤ site_count p)

-- A site is within the site s if the site is s, or if the site's parent is within s.
pub data IsWithin (p : Plan) (s : ℕ) : ℕ → Type 0 where
  itself : IsWithin p s s
  child : (c : ℕ) → IsSite p c → IsWithin p s (parent p c) → IsWithin p s c

-- Whether at most so many steps from the site o to its parent lead to s. The search stops at or below s, since a parent is smaller.
abbrev pub leads_up : Plan → ℕ → ℕ → ℕ → Bool
leads_up p s zero o = o == s
leads_up p s (suc n) o = if nat_lt s o then leads_up p s n (parent p o) else o == s

-- Whether the site o is within the site s.
abbrev pub is_within : Plan → ℕ → ℕ → Bool
is_within p s o = leads_up p s o o

-- The greatest number of harts.
abbrev pub most_harts : ℕ
most_harts = 16

-- The greatest number of sites.
abbrev pub most_sites : ℕ
most_sites = 4095

-- The greatest number of entries of a legal list.
abbrev pub most_entries : ℕ
most_entries = 65535

-- The room of a plan: the greatest number of entries of a legal list.
abbrev pub room : Plan → ℕ
room p = site_count p * (3 * p.harts - 1)

-- A plan has at least one hart, its harts, sites and entries are within the limits, and each site's parent is smaller than the
-- site. `short` doesn't follow from the other limits: 16 harts and 4,095 sites would have room for 192,465 entries.
pub record IsPlan (p : Plan) : Type 0 where
  pub some_hart : 1 ≤ p.harts
  pub few_harts : p.harts ≤ most_harts
  pub few_sites : site_count p ≤ most_sites
  pub short : room p ≤ most_entries
  pub below : (s : ℕ) → 1 ≤ s → s ≤ site_count p → parent p s < s

-- The least site, from k on, whose parent isn't smaller. The list has the parents from site k on.
abbrev pub bad_parent : List ℕ → ℕ → Option ℕ
bad_parent [] k = None
bad_parent (q ∷ qs) k = if nat_le k q then Some k else bad_parent qs (k + 1)

-- Whether there are too many sites, by their number or by the room for entries on so many harts.
abbrev pub has_too_many_sites : Plan → Bool
has_too_many_sites p = nat_lt most_sites (site_count p) || nat_lt most_entries (room p)

-- The first reason why there is no plan with these harts and parents; nothing if there is one.
abbrev pub plan_fault_of : ℕ → List ℕ → Option PlanFault
plan_fault_of n qs = first_cause
    (cause_if ((n == 0) || nat_lt most_harts n) (fault.BadHarts n)
    ∷ cause_if (has_too_many_sites record { harts = n; parents = qs }) (fault.TooManySites (length qs))
    ∷ option_map fault.BadParent (bad_parent qs 1)
    ∷ [])

-- The children of a site in rising order.
use Rattle.std.specs.Prelude.{◌≡◌, ℕ, zero, suc, ◌+◌, ◌<◌, ◌≤◌, List, length, Option, Some, None, slice_index}
use Rattle.transfer_table.specs.Plan.{Plan, IsPlan, IsSite, parent, site_count}

-- Site c is the least child above n.
pub record IsNextChild (p : Plan) (around n c : ℕ) : Type 0 where
  pub site : IsSite p c
  pub child : parent p c ≡ around
  pub above : n < c
  pub least : (d : ℕ) → IsSite p d → parent p d ≡ around → n < d → c ≤ d

-- The least child above n of the base or a site, if there is one.
abbrev pub NextChild : Plan → ℕ → ℕ → Option ℕ → Type 0
NextChild p around n (Some c) = IsNextChild p around n c
NextChild p around n None = (d : ℕ) → IsSite p d → parent p d ≡ around → d ≤ n

-- The site of a number: 0 is no site.
abbrev pub site_if : ℕ → Option ℕ
site_if zero = None
site_if (suc n) = Some (suc n)

-- The two lists of links, with an index for the base and for each site: `next` has the next sibling of each site above n,
-- `first` has the least child above n of the base and each site.
pub record AreLinkedFrom (p : Plan) (n : ℕ) (first next : List ℕ) : Type 0 where
  pub first_size : length first ≡ site_count p + 1
  pub next_size : length next ≡ site_count p + 1
  pub children : (s : ℕ) → s ≤ site_count p → NextChild p s n (site_if (slice_index first s))
  pub siblings : (c : ℕ) → IsSite p c → n < c
      → NextChild p (parent p c) c (site_if (slice_index next c))

-- The lists hold all links of the plan.
pub record AreLinked (p : Plan) (first next : List ℕ) : Type 0 where
  pub plan : IsPlan p
  pub links : AreLinkedFrom p 0 first next

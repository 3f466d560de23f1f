-- Plans whose sites all lie under the base.
use Rattle.std.specs.Prelude.{◌≡◌, ℕ}
use Rattle.transfer_table.specs.Plan.{Plan, IsSite, parent}

-- A flat plan: each site's parent is the base.
abbrev pub IsFlat : Plan → Type 0
IsFlat p = (c : ℕ) → IsSite p c → parent p c ≡ 0

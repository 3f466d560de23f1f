-- What entries show of sites: which sites have ended as meant, and which sites are fresh.
use Rattle.std.specs.Prelude.{◌≡◌, ℕ, ◌+◌, ◌<◌, ◌≤◌, ◌⊎◌, Bool, true, false, List, [], ◌∷◌}
use Rattle.transfer_table.specs.Plan.{Plan, IsSite, parent}
use Rattle.transfer_table.specs.Entry.{registers, unregisters, skips_over}
use Rattle.transfer_table.specs.declared.entry.Entry.{Entry}

-- A site has ended as meant: a site that is meant to be entered came and went; any other site was skipped, by itself or with a
-- site around it.
abbrev pub IsOverAs : Plan → List Entry → ℕ → Bool → Type 0
IsOverAs p es s true = 1 ≤ unregisters s es
IsOverAs p es s false = 1 ≤ skips_over p s es

-- The sites from s on have ended as meant, one for each flag.
abbrev pub AreOverAs : Plan → List Entry → ℕ → List Bool → Type 0
AreOverAs p es s [] = Unit {0}
AreOverAs p es s (m ∷ more) = IsOverAs p es s m × AreOverAs p es (s + 1) more

-- A fresh site was neither registered nor skipped by any hart.
pub record IsFresh (p : Plan) (es : List Entry) (s : ℕ) : Type 0 where
  pub unregistered : registers s es ≡ 0
  pub unskipped : skips_over p s es ≡ 0

-- The n sites from s on are fresh.
abbrev pub AreFresh : Plan → List Entry → ℕ → ℕ → Type 0
AreFresh p es s n = (x : ℕ) → IsSite p x → s ≤ x → x < s + n → IsFresh p es x

-- The list has grown: it unregisters and skips each site at least as often as before.
pub record HasGrown (p : Plan) (before after : List Entry) : Type 0 where
  pub went : (x : ℕ) → unregisters x before ≤ unregisters x after
  pub skipped : (x : ℕ) → skips_over p x before ≤ skips_over p x after

-- The entries between the two lists are not about the site, and skip no site around it.
pub record IsUntouched (p : Plan) (before after : List Entry) (x : ℕ) : Type 0 where
  pub came : registers x after ≡ registers x before
  pub went : unregisters x after ≡ unregisters x before
  pub skipped : skips_over p x after ≡ skips_over p x before

-- The entries between the two lists are about none of the sites but the n sites from s on.
abbrev pub KeepsOutside : Plan → List Entry → List Entry → ℕ → ℕ → Type 0
KeepsOutside p before after s n = (x : ℕ) → IsSite p x → (x < s) ⊎ (s + n ≤ x)
    → IsUntouched p before after x

-- A span: the n sites from s on are whole subtrees inside one site or the base, `around`. The parent of each site of the span
-- is `around` or a site of the span, and no site after the span has its parent in the span.
pub record IsSpan (p : Plan) (around s n : ℕ) : Type 0 where
  pub below : around < s
  pub inside : (x : ℕ) → s ≤ x → x < s + n
      → IsSite p x × ((parent p x ≡ around) ⊎ (s ≤ parent p x))
  pub behind : (x : ℕ) → IsSite p x → s + n ≤ x → (parent p x < s) ⊎ (s + n ≤ parent p x)

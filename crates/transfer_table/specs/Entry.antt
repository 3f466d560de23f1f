-- The hart, the site and the kind of an entry.
use Rattle.std.specs.Prelude.{ℕ, ◌==◌, Bool, true, false, ◌&&◌, if◌then◌else◌, List}
use Rattle.std.specs.List.{filter, count_by, sum_by}
use Rattle.transfer_table.specs.Plan.{Plan, is_within}
use Rattle.transfer_table.specs.declared.entry.Entry.{Entry}
use Rattle.transfer_table.specs.declared.entry.Entry.TheVariants.{Register, Request, Enter, Yield, Unregister, Skip}

-- The hart that makes the entry.
abbrev pub hart_of : Entry → ℕ
hart_of (Register h s) = h
hart_of (Request h s k) = h
hart_of (Enter h s) = h
hart_of (Yield h s) = h
hart_of (Unregister h s) = h
hart_of (Skip h s) = h

-- The site that the entry is of.
abbrev pub site_of : Entry → ℕ
site_of (Register h s) = s
site_of (Request h s k) = s
site_of (Enter h s) = s
site_of (Yield h s) = s
site_of (Unregister h s) = s
site_of (Skip h s) = s

-- The number of harts that the entry requests.
abbrev pub count_of : Entry → ℕ
count_of (Register h s) = 0
count_of (Request h s k) = k
count_of (Enter h s) = 0
count_of (Yield h s) = 0
count_of (Unregister h s) = 0
count_of (Skip h s) = 0

-- Whether the entry is a Register.
abbrev pub is_register : Entry → Bool
is_register (Register h s) = true
is_register (Request h s k) = false
is_register (Enter h s) = false
is_register (Yield h s) = false
is_register (Unregister h s) = false
is_register (Skip h s) = false

-- Whether the entry is an Enter.
abbrev pub is_enter : Entry → Bool
is_enter (Register h s) = false
is_enter (Request h s k) = false
is_enter (Enter h s) = true
is_enter (Yield h s) = false
is_enter (Unregister h s) = false
is_enter (Skip h s) = false

-- Whether the entry is an Unregister.
abbrev pub is_unregister : Entry → Bool
is_unregister (Register h s) = false
is_unregister (Request h s k) = false
is_unregister (Enter h s) = false
is_unregister (Yield h s) = false
is_unregister (Unregister h s) = true
is_unregister (Skip h s) = false

-- Whether the entry is a Skip.
abbrev pub is_skip : Entry → Bool
is_skip (Register h s) = false
is_skip (Request h s k) = false
is_skip (Enter h s) = false
is_skip (Yield h s) = false
is_skip (Unregister h s) = false
is_skip (Skip h s) = true

-- The entries that the hart made, in order.
abbrev pub made_by : ℕ → List Entry → List Entry
made_by h es = filter (λ e. hart_of e == h) es

-- The number of entries that register the site.
abbrev pub registers : ℕ → List Entry → ℕ
registers s es = count_by (λ e. if site_of e == s then is_register e else false) es

-- The number of entries by which a hart enters the site.
abbrev pub enters : ℕ → List Entry → ℕ
enters s es = count_by (λ e. if site_of e == s then is_enter e else false) es

-- The number of entries that unregister the site.
abbrev pub unregisters : ℕ → List Entry → ℕ
unregisters s es = count_by (λ e. if site_of e == s then is_unregister e else false) es

-- The number of harts that the entries request for the site.
abbrev pub requested : ℕ → List Entry → ℕ
requested s es = sum_by (λ e. if site_of e == s then count_of e else 0) es

-- The number of entries that skip the site itself.
abbrev pub skips : ℕ → List Entry → ℕ
skips s es = count_by (λ e. if site_of e == s then is_skip e else false) es

-- The entry skips the site, by itself or with a site around it.
abbrev pub covers : Plan → Entry → ℕ → Bool
covers p e s = is_skip e && is_within p (site_of e) s

-- The number of entries that skip the site, by itself or with a site around it.
abbrev pub skips_over : Plan → ℕ → List Entry → ℕ
skips_over p s es = count_by (λ e. covers p e s) es

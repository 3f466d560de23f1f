-- The laws of the table, for every plan and every list of entries. A law on the last state of a legal list holds after each of
-- its entries, since each prefix of a legal list is legal.
use Rattle.std.specs.Prelude.{◌≡◌, ◌≢◌, ◌↔◌, ℕ, zero, suc, ◌+◌, ◌-◌, ◌≤◌, ◌==◌, ◌⊎◌, Bool, true, false, not, ◌&&◌, if◌then◌else◌, List, [], ◌++◌, length, Some, Ok}
use Rattle.std.specs.List.{All, count_by}
use Rattle.std.specs.Option.{is_some}
use Rattle.transfer_table.specs.Plan.{Plan, IsPlan, IsHart, IsSite, parent, IsWithin, is_within, room, site_count}
use Rattle.transfer_table.specs.Table.{TableState, IsPosition, admit_of, effect_of, owner, row, blank, is_gone}
use Rattle.transfer_table.specs.Journal.{Reaches, IsLegal, AllGone, AreMeant, is_meant}
use Rattle.transfer_table.specs.Allowed.{IsAllowed}
use Rattle.transfer_table.specs.Entry.{hart_of, site_of, count_of, made_by, registers, enters, unregisters, skips, skips_over, requested}
use Rattle.transfer_table.specs.declared.entry.Stage.TheVariants.{New, Live, Gone}
use Rattle.transfer_table.specs.declared.entry.Entry.{Entry}
use Rattle.transfer_table.specs.declared.entry.Entry.TheVariants.{Register, Request, Enter, Yield, Unregister, Skip}

-- The number is that of the base or of a live site.
abbrev pub IsBaseOrLive : Plan → TableState → ℕ → Type 0
IsBaseOrLive p t o = (o ≡ 0) ⊎ (IsSite p o × ((row t o).stage ≡ Live))

-- The number of harts that the site or the base holds.
abbrev pub harts_in : TableState → ℕ → ℕ
harts_in t o = count_by (λ q. q == o) t.owners

-- The number of harts that the base and the sites up to s hold.
abbrev pub harts_up_to : TableState → ℕ → ℕ
harts_up_to t zero = harts_in t 0
harts_up_to t (suc s) = harts_up_to t s + harts_in t (suc s)

-- Every owner is the base or a live site, and the harts that the base and the sites hold add up to all harts.
abbrev pub HartsAreConserved : Type 0
HartsAreConserved = (p : Plan) (es : List Entry) (t : TableState) → IsPlan p → Reaches p es t
    → ((h : ℕ) → IsHart p h → IsBaseOrLive p t (owner t h))
    × (harts_up_to t (site_count p) ≡ p.harts)

-- The parent of a live site is the base or live, and every child of a gone site is gone.
abbrev pub ParentsOutliveChildren : Type 0
ParentsOutliveChildren = (p : Plan) (es : List Entry) (t : TableState) → IsPlan p → Reaches p es t
    → ((s : ℕ) → IsSite p s → (row t s).stage ≡ Live → IsBaseOrLive p t (parent p s))
    × ((s c : ℕ) → IsSite p s → IsSite p c → parent p c ≡ s → (row t s).stage ≡ Gone
    → (row t c).stage ≡ Gone)

-- `is_within` holds exactly of the sites within a site.
abbrev pub WithinIsTested : Type 0
WithinIsTested = (p : Plan) (s o : ℕ) → IsPlan p → IsSite p s → IsSite p o
    → (is_within p s o ≡ true) ↔ IsWithin p s o

-- Every child of a new site is new.
abbrev pub ChildrenOfNewAreNew : Type 0
ChildrenOfNewAreNew = (p : Plan) (es : List Entry) (t : TableState) → IsPlan p → Reaches p es t
    → (s c : ℕ) → IsSite p s → IsSite p c → parent p c ≡ s → (row t s).stage ≡ New
    → (row t c).stage ≡ New

-- The home of a live site is a hart whose owner is the site or a descendant of it.
abbrev pub HomesStayInside : Type 0
HomesStayInside = (p : Plan) (es : List Entry) (t : TableState) → IsPlan p → Reaches p es t
    → (s : ℕ) → IsSite p s → (row t s).stage ≡ Live
    → (h : ℕ) × ((row t s).home ≡ Some h) × IsHart p h × IsWithin p s (owner t h)

-- A request is by the site's home; other entries may be by any hart.
abbrev pub IsByHome : TableState → Entry → Type 0
IsByHome t (Register h s) = Unit {0}
IsByHome t (Request h s k) = (row t s).home ≡ Some h
IsByHome t (Enter h s) = Unit {0}
IsByHome t (Yield h s) = Unit {0}
IsByHome t (Unregister h s) = Unit {0}
IsByHome t (Skip h s) = Unit {0}

-- Only the site's home requests; a site's enters and wishes add up to the harts that it requested, at most all but one.
abbrev pub WishesBalance : Type 0
WishesBalance = (p : Plan) (es : List Entry) (t : TableState) → IsPlan p → Reaches p es t
    → All (IsByHome t) es
    × ((s : ℕ) → IsSite p s → (enters s es + (row t s).wishes ≡ (row t s).asked)
    × ((row t s).asked ≡ requested s es) × ((row t s).asked ≤ p.harts - 1))

-- A legal list has at most three entries for each site and hart, less one for each site.
abbrev pub LegalListsAreShort : Type 0
LegalListsAreShort = (p : Plan) (es : List Entry) → IsPlan p → IsLegal p es
    → length es ≤ room p

-- The row of a site counts the entries. A site with a home was registered once, and any other site never. A gone site with a home
-- was unregistered once. One entry skipped a gone site without a home, by itself or with a site around it.
pub record IsCounted (p : Plan) (es : List Entry) (t : TableState) (s : ℕ) : Type 0 where
  pub came : registers s es ≡ (if is_some (row t s).home then 1 else 0)
  pub went : unregisters s es
      ≡ (if (is_gone (row t s).stage && is_some (row t s).home) then 1 else 0)
  pub skipped : skips_over p s es
      ≡ (if (is_gone (row t s).stage && not (is_some (row t s).home)) then 1 else 0)

-- In each reachable state, `IsCounted` holds of every site.
abbrev pub RowsReportEntries : Type 0
RowsReportEntries = (p : Plan) (es : List Entry) (t : TableState) → IsPlan p → Reaches p es t
    → (s : ℕ) → IsSite p s → IsCounted p es t s

-- A site is registered or skipped at most once. A new site is neither registered nor skipped, and a live site is registered. A
-- site that was unregistered, or skipped itself, is gone. A gone site that was neither registered nor skipped itself was skipped
-- with a site around it, so its parent is a gone site.
pub record BeginsOnce (p : Plan) (es : List Entry) (t : TableState) (s : ℕ) : Type 0 where
  pub once : registers s es + skips s es ≤ 1
  pub fresh : (row t s).stage ≡ New → (registers s es + skips s es ≡ 0) × (unregisters s es ≡ 0)
  pub live : (row t s).stage ≡ Live
      → (registers s es ≡ 1) × (skips s es ≡ 0) × (unregisters s es ≡ 0)
  pub over : 1 ≤ unregisters s es + skips s es → (row t s).stage ≡ Gone
  pub ends : (row t s).stage ≡ Gone → unregisters s es + skips s es ≡ registers s es + skips s es
  pub left_out : (row t s).stage ≡ Gone → registers s es + skips s es ≡ 0
      → IsSite p (parent p s) × ((row t (parent p s)).stage ≡ Gone)

-- In each reachable state, `BeginsOnce` holds of every site.
abbrev pub SitesBeginOnce : Type 0
SitesBeginOnce = (p : Plan) (es : List Entry) (t : TableState) → IsPlan p → Reaches p es t
    → (s : ℕ) → IsSite p s → BeginsOnce p es t s

-- The site was registered once and unregistered once, and no entry skips the site or a site around it.
pub record CameAndWent (p : Plan) (es : List Entry) (s : ℕ) : Type 0 where
  pub came : registers s es ≡ 1
  pub went : unregisters s es ≡ 1
  pub kept : skips_over p s es ≡ 0

-- The site was never registered, and one entry skips the site or a site around it.
pub record WasSkipped (p : Plan) (es : List Entry) (s : ℕ) : Type 0 where
  pub never_came : registers s es ≡ 0
  pub never_went : unregisters s es ≡ 0
  pub skipped : skips_over p s es ≡ 1

-- At the end of a complete list every owner is the base, each meant site came and went once, and each other site was skipped
-- once.
abbrev pub SitesComeAndGoOnce : Type 0
SitesComeAndGoOnce = (p : Plan) (meant : List Bool) (es : List Entry) (t : TableState) → IsPlan p
    → Reaches p es t → AllGone p t → AreMeant p meant es
    → ((h : ℕ) → IsHart p h → owner t h ≡ 0)
    × ((s : ℕ) → IsSite p s → is_meant meant s ≡ true → CameAndWent p es s)
    × ((s : ℕ) → IsSite p s → is_meant meant s ≡ false → WasSkipped p es s)

-- Each prefix of a legal list is legal.
abbrev pub PrefixesAreLegal : Type 0
PrefixesAreLegal = (p : Plan) (xs ys : List Entry) → IsLegal p (xs ++ ys) → IsLegal p xs

-- The table admits an entry exactly if the entry is allowed, and then the entry has its effect.
abbrev pub AllowedIsAdmitted : Type 0
AllowedIsAdmitted = (p : Plan) (t : TableState) (e : Entry) → IsPosition record {
  plan = p;
  state = t;
}
    → (IsAllowed p t e → admit_of p t e ≡ Ok (effect_of p t e))
    × ((u : TableState) → admit_of p t e ≡ Ok u → IsAllowed p t e × (u ≡ effect_of p t e))

-- The hart and the site of the entry are the plan's, and the entry requests fewer harts than the plan has.
abbrev pub IsEntryOf : Plan → Entry → Type 0
IsEntryOf p e = IsHart p (hart_of e) × IsSite p (site_of e) × (count_of e ≤ p.harts - 1)

-- Every entry of a legal list is an entry of the plan.
abbrev pub EntriesAreInThePlan : Type 0
EntriesAreInThePlan = (p : Plan) (es : List Entry) (t : TableState) → IsPlan p → Reaches p es t
    → All (IsEntryOf p) es

-- The row of a new site is blank.
abbrev pub NewRowsAreBlank : Type 0
NewRowsAreBlank = (p : Plan) (es : List Entry) (t : TableState) → IsPlan p → Reaches p es t
    → (s : ℕ) → IsSite p s → (row t s).stage ≡ New → row t s ≡ blank

-- A hart that made no entry is in the base, and the home of no site.
abbrev pub IdleHartsStay : Type 0
IdleHartsStay = (p : Plan) (es : List Entry) (t : TableState) → IsPlan p → Reaches p es t
    → (h : ℕ) → made_by h es ≡ []
    → (owner t h ≡ 0) × ((s : ℕ) → IsSite p s → (row t s).home ≢ Some h)

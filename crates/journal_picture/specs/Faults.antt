-- The first fault of a list in words, and what is true if the words name a reason.
use Rattle.std.specs.Prelude.{◌≡◌, ◌≢◌, ◌↔◌, ℕ, ◌+◌, ◌-◌, ◌<◌, Bool, true, false, List, [], ◌∷◌, ◌++◌, codes, length, slice_get, take, Option, Some, None}
use Rattle.std.specs.List.{concat}
use Rattle.std.specs.Fmt.{decimal}
use Rattle.transfer_table.specs.Plan.{Plan, IsPlan, IsHart, IsSite, parent, site_count}
use Rattle.transfer_table.specs.Table.{TableState, owner, row}
use Rattle.transfer_table.specs.Entry.{hart_of, site_of, count_of}
use Rattle.transfer_table.specs.Journal.{AllGone, IsComplete, Reaches, first_fault_of, has_register, is_meant}
use Rattle.transfer_table.specs.declared.entry.Stage.TheVariants.{New, Live, Gone}
use Rattle.transfer_table.specs.declared.entry.Entry.{Entry}
use Rattle.transfer_table.specs.declared.entry.Entry.TheVariants.{Register, Request, Enter, Yield, Unregister, Skip}
use Rattle.transfer_table.specs.declared.entry.NotAdmitted.{NotAdmitted}
use Rattle.transfer_table.specs.declared.entry.NotAdmitted.TheVariants as refusal
use Rattle.transfer_table.specs.declared.fault.Fault.{Fault}
use Rattle.transfer_table.specs.declared.fault.Why.{Why}
use Rattle.transfer_table.specs.declared.fault.Why.TheVariants.{Refused, Unfinished, Unmeant}
use Rattle.journal_picture.specs.Drawn.{has_fault}

-- ---- an entry in words

-- The word for what an entry does.
abbrev pub verb : Entry → List ℕ
verb (Register h s) = codes "register"
verb (Request h s k) = codes "request"
verb (Enter h s) = codes "enter"
verb (Yield h s) = codes "yield"
verb (Unregister h s) = codes "unregister"
verb (Skip h s) = codes "skip"

-- What a hart does at a site, in words.
abbrev pub entry_by : ℕ → ℕ → List ℕ → ℕ → List ℕ
entry_by k h does s =
    concat (codes "entry " ∷ decimal k ∷ codes ": h" ∷ decimal h ∷ codes " " ∷ does ∷ codes " s" ∷
    decimal s ∷ [])

-- The words of the entry at index k: its index, its hart, its word and its site.
abbrev pub entry_words : ℕ → Entry → List ℕ
entry_words k e = entry_by k (hart_of e) (verb e) (site_of e)

-- ---- why the table refuses an entry

-- The site in which the hart of an entry must be; s0 is the base.
abbrev pub wanted_owner : Plan → Entry → ℕ
wanted_owner p (Register h s) = parent p s
wanted_owner p (Request h s k) = s
wanted_owner p (Enter h s) = parent p s
wanted_owner p (Yield h s) = s
wanted_owner p (Unregister h s) = s
wanted_owner p (Skip h s) = parent p s

-- The words of a refusal because the hart is in one site and must be in another.
unfoldable pub elsewhere_words : ℕ → ℕ → List ℕ
elsewhere_words o wanted =
    concat (codes "the hart is in s" ∷ decimal o ∷ codes ", not in s" ∷ decimal wanted ∷ [])

-- The words of a refusal because the site would request more harts than all but its home.
abbrev pub too_many_words : ℕ → ℕ → List ℕ
too_many_words asked most =
    codes "requested " ++ decimal asked ++ codes " before, at most " ++ decimal most ++ codes " in all"

-- The words of a refusal.
abbrev pub reason_words : Plan → Entry → NotAdmitted → List ℕ
reason_words p e refusal.NoSuchHart = codes "no such hart"
reason_words p e refusal.NoSuchSite = codes "no such site"
reason_words p e (refusal.NotOwner o) = elsewhere_words o (wanted_owner p e)
reason_words p e refusal.NotNew = codes "the site isn't new"
reason_words p e refusal.NotLive = codes "the site isn't live"
reason_words p e (refusal.NotHome home) = codes "the home is h" ++ decimal home
reason_words p e refusal.NoWish = codes "no wish"
reason_words p e (refusal.TooManyWished asked) = too_many_words asked (p.harts - 1)
reason_words p e refusal.IsHome = codes "the hart is the home"
reason_words p e (refusal.HartInside g) = codes "h" ++ decimal g ++ codes " is inside"
reason_words p e (refusal.ChildLeft c) = codes "the child s" ++ decimal c ++ codes " isn't gone"
reason_words p e refusal.NoCount = codes "the count is 0"

-- ---- the fault's words

-- The words of a refused entry and of the refusal. There is an entry at the index of each refusal.
abbrev pub refused_words : Plan → ℕ → Option Entry → NotAdmitted → List ℕ
refused_words p k None why = []
refused_words p k (Some e) why = entry_words k e ++ codes ": " ++ reason_words p e why

-- The words of a fault at index k, by its reason.
abbrev pub fault_words : Plan → List Entry → ℕ → Why → List ℕ
fault_words p es k (Refused why) = refused_words p k (slice_get es k) why
fault_words p es k (Unfinished s) = codes "at the end: s" ++ decimal s ++ codes " isn't gone"
fault_words p es k (Unmeant s true) =
    codes "at the end: s" ++ decimal s ++ codes " was registered, but the program skips it"
fault_words p es k (Unmeant s false) =
    codes "at the end: s" ++ decimal s ++ codes " was skipped, but the program enters it"

-- The words of the first fault, if there is one.
abbrev pub words_of : Plan → List Entry → Option Fault → List ℕ
words_of p es None = []
words_of p es (Some fault) = fault_words p es fault.place fault.why

-- The words of the first fault as a line; nothing if there is no fault.
abbrev pub fault_line_of : Plan → List Entry → Option Fault → List ℕ
fault_line_of p es None = []
fault_line_of p es (Some fault) = words_of p es (Some fault) ++ codes "\n"

-- ---- laws

-- The condition of the refusal fails for the entry in the state.
abbrev pub Fails : Plan → TableState → Entry → NotAdmitted → Type 0
Fails p t e refusal.NoSuchHart = ¬ IsHart p (hart_of e)
Fails p t e refusal.NoSuchSite = ¬ IsSite p (site_of e)
Fails p t e (refusal.NotOwner o) = (owner t (hart_of e) ≡ o) × (o ≢ wanted_owner p e)
Fails p t e refusal.NotNew = (row t (site_of e)).stage ≢ New
Fails p t e refusal.NotLive = (row t (site_of e)).stage ≢ Live
Fails p t e (refusal.NotHome home) = (row t (site_of e)).home ≢ Some (hart_of e)
Fails p t e refusal.NoWish = (row t (site_of e)).wishes ≡ 0
Fails p t e (refusal.TooManyWished asked) =
    ((row t (site_of e)).asked ≡ asked) × (p.harts - 1 < asked + count_of e)
Fails p t e refusal.IsHome = (row t (site_of e)).home ≡ Some (hart_of e)
Fails p t e (refusal.HartInside g) = IsHart p g × (g ≢ hart_of e) × (owner t g ≡ site_of e)
Fails p t e (refusal.ChildLeft c) =
    IsSite p c × (parent p c ≡ site_of e) × ((row t c).stage ≢ Gone)
Fails p t e refusal.NoCount = count_of e ≡ 0

-- What a fault at an index means. A refusal: the entries before it lead to a state in which the entry's condition fails. Otherwise the
-- whole list leads to a state, and the site isn't gone there; or all sites are gone, and the site is registered and isn't meant to be,
-- or the other way round.
abbrev pub Means : Plan → List Bool → List Entry → ℕ → Why → Type 0
Means p meant es k (Refused why) =
    (t : TableState) × (e : Entry) × Reaches p (take k es) t × (slice_get es k ≡ Some e)
    × Fails p t e why
Means p meant es k (Unfinished s) =
    (t : TableState) × Reaches p es t × IsSite p s × ((row t s).stage ≢ Gone)
Means p meant es k (Unmeant s registered) =
    (t : TableState) × Reaches p es t × AllGone p t × IsSite p s
    × (has_register es s ≡ registered) × (is_meant meant s ≢ registered)

-- The picture of a list has a fault exactly if the list isn't complete for the sites that are meant.
abbrev pub FaultIsIncomplete : Type 0
FaultIsIncomplete = (p : Plan) (meant : List Bool) (es : List Entry) → IsPlan p
    → length meant ≡ site_count p → (has_fault p meant es ≡ false) ↔ IsComplete p meant es

-- The fault's words name a condition that fails.
abbrev pub FaultHasItsReason : Type 0
FaultHasItsReason = (p : Plan) (meant : List Bool) (es : List Entry) (fault : Fault) → IsPlan p
    → length meant ≡ site_count p → first_fault_of p meant es ≡ Some fault
    → Means p meant es fault.place fault.why

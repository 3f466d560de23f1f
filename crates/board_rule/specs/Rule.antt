-- The invariant of the words and the views, between any two steps.
use Rattle.std.specs.Prelude.{◌≡◌, ◌≢◌, ◌⊎◌, ℕ, ◌+◌, ◌*◌, ◌<◌, ◌≤◌, nat_le, Bool, true, false, List, [], length, slice_index, slice_get, Some, None}
use Rattle.std.specs.Option.{is_some}
use mathlib.Core.Option.{some}
use lib.ListN.{get_elem?}
use Rattle.atomic_table.specs.Table.{State}
use Rattle.transfer_table.specs.Plan.{Plan, IsPlan, IsHart, IsSite, parent, site_count}
use Rattle.transfer_table.specs.Table.{TableState, owner, row, is_gone, lives_with}
use Rattle.transfer_table.specs.Journal.{Reaches}
use Rattle.transfer_table.specs.Allowed.{IsAlone}
use Rattle.transfer_table.specs.Entry.{made_by}
use Rattle.transfer_table.specs.declared.entry.Row.{Row}
use Rattle.transfer_table.specs.declared.entry.Stage.TheVariants.{New, Live, Gone}
use Rattle.transfer_table.specs.declared.entry.Entry.{Entry}
use Rattle.transfer_table.specs.declared.entry.Entry.TheVariants.{Request, Enter, Yield, Unregister, Skip}
use Rattle.hart_port.specs.PortView.{is_in}
use Rattle.board_rule.specs.declared.view.View.{View}
use Rattle.board_rule.specs.declared.view.Marks.{Marks}
use Rattle.board_rule.specs.declared.entries.Drawn.{Drawn}
use Rattle.board_rule.specs.declared.entries.Ended.{Ended}
use Rattle.board_rule.specs.declared.view.Doing.{Doing}
use Rattle.board_rule.specs.declared.view.Doing.TheVariants.{Idle, Claiming, Crediting, Reserved, Landing, Leaving, Sealing}
use Rattle.board_rule.specs.declared.layout.Layout.{Layout}
use Rattle.board_rule.specs.declared.layout.Layout.TheVariants.{Owners, Guests}
use Rattle.board_rule.specs.Layouts.{HasRoom, first_word, insiders}
use Rattle.board_rule.specs.Encodings.{width, journal_word, wish_unit, guest_unit}
use Rattle.transfer_table.specs.Counts.{one_if}
use Rattle.board_rule.specs.Sums.{total, ended_as}
use Rattle.board_rule.specs.Counts.{draws, numbered, Load, load, guests}
use Rattle.board_rule.specs.Views.{spent_view}
use Rattle.board_rule.specs.Places.{IsPlace, AreAt, is_last}
use Rattle.board_rule.specs.Shown.{started, shown}

-- ---- a site

-- The word of a site is right by the row that it shows, the closing bit, the load of the seats, and the guests inside. It is the
-- sum of the claimed bit, 2 times the closing bit, 4 times the closed bit, 256 times the want and 65,536 times the guests.
pub record IsSiteWord (word : ℕ) (closing : Bool) (c : Load) (r : Row) (inside : ℕ) : Type 0 where
  pub want : ℕ
  -- At most one seat is claiming the site, and no seat if the site isn't new.
  pub claimed : started r.stage + c.claims ≤ 1
  -- A new site isn't closing.
  pub fresh : r.stage ≡ New → closing ≡ false
  -- A gone site that was registered is closing.
  pub over : r.stage ≡ Gone → is_some r.home ≡ true → closing ≡ true
  -- A site that isn't live has no guest: no hart is inside, on its way in, or leaving.
  pub idle : r.stage ≢ Live → inside + c.reserves + c.lands + c.leaves ≡ 0
  -- At most one seat is sealing the site, and only if the site is gone.
  pub sealed : c.seals ≤ one_if (is_gone r.stage)
  -- The unmet wishes are the want, the wishes for which a hart is reserved, and the wishes not yet added to the want.
  pub wishes : want + c.reserves + c.credits ≡ r.wishes
  pub word_is : word + 4 * c.seals ≡ started r.stage + c.claims + 2 * one_if closing
      + 4 * one_if (is_gone r.stage) + wish_unit * want
      + guest_unit * (inside + c.reserves + c.lands + c.leaves)

-- ---- what a seat knows

-- The view is of a seat that was not joined into hart 0's.
abbrev pub IsSeat : View → Type 0
IsSeat v = v.hart < v.plan.harts

-- Each set has a flag for the base and for each site.
pub record HasFlags (p : Plan) (m : Marks) : Type 0 where
  pub homes : length m.homes ≡ site_count p + 1
  pub closed : length m.closed ≡ site_count p + 1
  pub drained : length m.drained ≡ site_count p + 1
  pub empty : length m.empty ≡ site_count p + 1
  pub gone : length m.gone ≡ site_count p + 1

-- Each child of the site was seen gone.
abbrev pub SawChildren : Plan → Marks → ℕ → Type 0
SawChildren p m x = (c : ℕ) → IsSite p c → parent p c ≡ x → is_in m.gone c ≡ true

module _ (lay : Layout) (p : Plan) (es : List Entry) (t : TableState) (v : View) where
  -- The pending step of the seat is one that the table's state allows.
  abbrev pub DoesRight : Doing → Type 0
  DoesRight Idle = Unit {0}
  DoesRight (Claiming x) =
      IsSite p x × (v.owner ≡ parent p x) × ((row t x).stage ≡ New) × (v.drawn ≡ None)
  DoesRight (Reserved x) =
      IsSite p x × (v.owner ≡ parent p x) × ((row t x).stage ≡ Live) × (v.drawn ≡ None)
  DoesRight (Crediting x k) = IsSite p x × is_last v.mine (Request v.hart x k)
  DoesRight (Landing x) = IsSite p x × is_last v.mine (Enter v.hart x) × (lay ≡ Owners)
  DoesRight (Leaving x) = IsSite p x × is_last v.mine (Yield v.hart x) × (lay ≡ Guests)
  DoesRight (Sealing x) = IsSite p x × ((shown es t x).stage ≡ Gone)
      × (is_last v.mine (Unregister v.hart x) ⊎ is_last v.mine (Skip v.hart x))

module _ (p : Plan) (es : List Entry) (t : TableState) (v : View) where
  -- The view is right about its own hart: the plan, the owner, and the entries that the hart made.
  pub record KnowsItself (made : ℕ) (ended : List Ended) : Type 0 where
    pub plan : v.plan ≡ p
    pub mine : v.mine ≡ made_by v.hart es
    pub placed : AreAt es v.mine v.places
    pub owner : v.owner ≡ owner t v.hart
    -- The entry that the seat has still to write is in the journal at its index, and is the last entry that the hart made.
    pub drawn : (d : Drawn) → v.drawn ≡ Some d
        → (slice_get es d.place ≡ Some d.entry) × is_last v.mine d.entry
    pub joined : v.hart ≡ 0 → (v.made ≡ made) × (v.ended ≡ ended)

-- The marks of a view are right about the sites.
pub record KnowsSites (p : Plan) (t : TableState) (h : ℕ) (m : Marks) (closing : ℕ → Bool)
    (guests_of : ℕ → ℕ) : Type 0 where
  pub sized : HasFlags p m
  pub homes : (x : ℕ) → IsSite p x → is_in m.homes x ≡ lives_with t x h
  pub homes_in : (x : ℕ) → is_in m.homes x ≡ true → IsSite p x
  pub closed : (x : ℕ) → is_in m.closed x ≡ true → (is_in m.homes x ≡ true) × (closing x ≡ true)
  -- No reservation succeeds once the closing bit is set, so a site that was seen without a guest has none from then on.
  pub drained : (x : ℕ) → is_in m.drained x ≡ true → (is_in m.closed x ≡ true) × (guests_of x ≡ 0)
  pub empty : (x : ℕ) → is_in m.empty x ≡ true → is_in m.drained x ≡ true
  -- A site that was seen empty, and whose children were all seen gone, holds no other hart.
  pub alone : (x : ℕ) → is_in m.empty x ≡ true → SawChildren p m x → IsAlone p t h x
  pub gone : (x : ℕ) → is_in m.gone x ≡ true → IsSite p x × ((row t x).stage ≡ Gone)

-- A view is right about its hart, its pending step and the sites.
pub record Knows (lay : Layout) (p : Plan) (es : List Entry) (t : TableState) (v : View)
    (closing : ℕ → Bool) (guests_of : ℕ → ℕ) (made : ℕ) (ended : List Ended) : Type 0 where
  pub itself : KnowsItself p es t v made ended
  pub does : DoesRight lay p es t v v.doing
  pub sites : KnowsSites p t v.hart v.marks closing guests_of

-- ---- the invariant

-- The words and the views represent a journal, a state of the table, the number of seats that were made, the harts that were
-- joined into hart 0's seat, and the closing bit of each site.
pub record Stands (lay : Layout) (p : Plan) (s : State (Unit {0}) View) : Type 0 where
  pub journal : List Entry
  pub table : TableState
  pub made : ℕ
  pub ended : List Ended
  pub closing : ℕ → Bool
  pub plan : IsPlan p
  pub few : HasRoom lay p.harts
  pub wide : length s.words ≡ width p
  -- The journal is legal, and leads to the state of the table.
  pub legal : Reaches p journal table
  -- The first word has the journal's length, and the owners of the harts if the layout keeps the owners there.
  pub board : slice_index s.words 0 ≡ first_word lay table (length journal)
  -- The word of each journal index is written, or one view has reserved the index. Behind the journal all words are 0.
  pub places : (i : ℕ) (e : Entry) → slice_get journal i ≡ Some e
      → IsPlace (journal_word p s.words i) (total (draws i) s.views) e
  pub beyond : (i : ℕ) → length journal ≤ i
      → (journal_word p s.words i ≡ 0) × (total (draws i) s.views ≡ 0)
  -- The word of each site is right by the site's row, its guests, and the load of the seats.
  pub sites : (x : ℕ) → IsSite p x
      → IsSiteWord (slice_index s.words x) (closing x) (load x s.views) (shown journal table x)
      (insiders lay p table x)
  -- Each hart has one seat, or its seat was joined into hart 0's, or its seat hasn't been made.
  pub seats : (h : ℕ) → IsHart p h → total (numbered h) s.views + total (ended_as h) ended
      + one_if (nat_le made h) ≡ 1
  pub first : total (numbered 0) s.views ≡ 1
  pub unmade : (h : ℕ) → made ≤ h → made_by h journal ≡ []
  pub over : (k : ℕ) (e : Ended) → get_elem? ended k ≡ some e
      → (e.mine ≡ made_by e.hart journal) × AreAt journal e.mine e.places
  -- The view of each seat is right. The view of a seat that was joined into hart 0's is blank.
  pub views : (j : ℕ) (v : View) → get_elem? s.views j ≡ some v → IsSeat v
      → Knows lay p journal table v closing (guests lay p table s.views) made ended
  pub spent : (j : ℕ) (v : View) → get_elem? s.views j ≡ some v → ¬ IsSeat v → v ≡ spent_view

-- ---- what the invariant states of every seat

-- The owner of a view is the base or a site of the plan, its sets have a flag for the base and for each site, and the base is no home.
pub record FitsPlan (v : View) : Type 0 where
  pub owner : v.owner ≤ site_count v.plan
  pub flags : HasFlags v.plan v.marks
  pub base : is_in v.marks.homes 0 ≡ false

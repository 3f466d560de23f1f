-- The table of transfers: the conditions of an entry, its effect, and why the table refuses an entry.
use Rattle.std.specs.Prelude.{◌≡◌, ℕ, ◌+◌, ◌-◌, ◌==◌, nat_le, nat_lt, Bool, true, false, not, ◌||◌, ◌&&◌, if◌then◌else◌, List, [], ◌∷◌, ◌++◌, length, replicate, slice_index, slice_index_or, slice_set, Option, Some, None, Result, Ok, Err, IfOk, IfErr, OnErr}
use Rattle.std.specs.Option.{option_map}
use Rattle.transfer_table.specs.Causes.{cause_if, first_cause}
use Rattle.transfer_table.specs.Plan.{Plan, parent, is_within, site_count, IsPlan}
use Rattle.transfer_table.specs.declared.entry.Row.{Row}
use Rattle.transfer_table.specs.declared.entry.Stage.{Stage}
use Rattle.transfer_table.specs.declared.entry.Stage.TheVariants.{New, Live, Gone}
use Rattle.transfer_table.specs.declared.entry.Entry.{Entry}
use Rattle.transfer_table.specs.declared.entry.Entry.TheVariants.{Register, Request, Enter, Yield, Unregister, Skip}
use Rattle.transfer_table.specs.declared.entry.NotAdmitted.{NotAdmitted}
use Rattle.transfer_table.specs.declared.entry.NotAdmitted.TheVariants as refusal

-- The owner of each hart, and a row for each site, that of site s at index s - 1.
pub record TableState : Type 0 where
  pub owners : List ℕ
  pub rows : List Row

-- The row of a new site.
abbrev pub blank : Row
blank = record { stage = New; home = None; wishes = 0; asked = 0 }

-- The first state of a table: each hart's owner is the base, and each site is new.
abbrev pub first_state : Plan → TableState
first_state p = record { owners = replicate p.harts 0; rows = replicate (site_count p) blank }

-- The site that holds the hart; 0 for the base.
abbrev pub owner : TableState → ℕ → ℕ
owner t h = slice_index t.owners h

-- The row of a site.
abbrev pub row : TableState → ℕ → Row
row t s = slice_index_or t.rows (s - 1) blank

-- Whether a site is new.
abbrev pub is_new : Stage → Bool
is_new New = true
is_new Live = false
is_new Gone = false

-- Whether a site is live.
abbrev pub is_live : Stage → Bool
is_live New = false
is_live Live = true
is_live Gone = false

-- Whether a site is gone.
abbrev pub is_gone : Stage → Bool
is_gone New = false
is_gone Live = false
is_gone Gone = true

-- Whether the hart is the home.
abbrev pub is_home : Option ℕ → ℕ → Bool
is_home None h = false
is_home (Some g) h = g == h

-- The site is live, and the hart is its home.
abbrev pub lives_with : TableState → ℕ → ℕ → Bool
lives_with t s h = is_live (row t s).stage && is_home (row t s).home h

-- The home as a number; 0 if there is none. Why: `NotHome` reports a number for a site without a home too.
abbrev pub home_number : Option ℕ → ℕ
home_number None = 0
home_number (Some g) = g

-- The least hart from k on, other than h, whose owner is s. The list has the owners from hart k on.
abbrev pub other_inside : List ℕ → ℕ → ℕ → ℕ → Option ℕ
other_inside [] h s k = None
other_inside (o ∷ os) h s k =
    if (not (k == h) && (o == s)) then Some k else other_inside os h s (k + 1)

-- The least other hart whose owner is the site.
abbrev pub hart_inside : TableState → ℕ → ℕ → Option ℕ
hart_inside t h s = other_inside t.owners h s 0

-- The least site from k on that is a child of s and isn't gone. The lists are the parents and the rows from site k on.
abbrev pub least_left : List ℕ → List Row → ℕ → ℕ → Option ℕ
least_left [] rs s k = None
least_left (q ∷ qs) [] s k = None
least_left (q ∷ qs) (r ∷ rs) s k =
    if ((q == s) && not (is_gone r.stage)) then Some k else least_left qs rs s (k + 1)

-- The least child of the site that isn't gone.
abbrev pub child_left : Plan → TableState → ℕ → Option ℕ
child_left p t s = least_left p.parents t.rows s 1

-- Whether the plan has no such site.
abbrev pub no_such_site : Plan → ℕ → Bool
no_such_site p s = (s == 0) || nat_lt (site_count p) s

-- The refusals that every kind of entry may get: for its hart, for its site, and for an owner that isn't the wanted one.
abbrev pub common_refusals : Plan → TableState → ℕ → ℕ → ℕ → List (Option NotAdmitted)
common_refusals p t h s wanted =
    cause_if (nat_le p.harts h) refusal.NoSuchHart
    ∷ cause_if (no_such_site p s) refusal.NoSuchSite
    ∷ cause_if (not (owner t h == wanted)) (refusal.NotOwner (owner t h))
    ∷ []

-- The refusals of each kind of entry, in the order in which the table tests them.
abbrev pub refusals_of : Plan → TableState → Entry → List (Option NotAdmitted)
refusals_of p t (Register h s) =
    common_refusals p t h s (parent p s)
    ++ cause_if (not (is_new (row t s).stage)) refusal.NotNew
    ∷ []
refusals_of p t (Request h s k) =
    common_refusals p t h s s
    ++ cause_if (not (is_home (row t s).home h)) (refusal.NotHome (home_number (row t s).home))
    ∷ cause_if (nat_lt (p.harts - 1) ((row t s).asked + k)) (refusal.TooManyWished (row t s).asked)
    ∷ cause_if (k == 0) refusal.NoCount
    ∷ []
refusals_of p t (Enter h s) =
    common_refusals p t h s (parent p s)
    ++ cause_if (not (is_live (row t s).stage)) refusal.NotLive
    ∷ cause_if ((row t s).wishes == 0) refusal.NoWish
    ∷ []
refusals_of p t (Yield h s) =
    common_refusals p t h s s
    ++ cause_if (is_home (row t s).home h) refusal.IsHome
    ∷ []
refusals_of p t (Unregister h s) =
    common_refusals p t h s s
    ++ cause_if (not (is_home (row t s).home h)) (refusal.NotHome (home_number (row t s).home))
    ∷ option_map refusal.HartInside (hart_inside t h s)
    ∷ option_map refusal.ChildLeft (child_left p t s)
    ∷ []
refusals_of p t (Skip h s) =
    common_refusals p t h s (parent p s)
    ++ cause_if (not (is_new (row t s).stage)) refusal.NotNew
    ∷ []

-- The owners after the hart moved to the site.
abbrev pub moved : TableState → ℕ → ℕ → List ℕ
moved t h s = slice_set t.owners h s

-- The rows with this row for the site.
abbrev pub with_row : TableState → ℕ → Row → List Row
with_row t s r = slice_set t.rows (s - 1) r

-- The row of a site that is gone and has no home. Why: a skipped site differs from an unregistered one by its missing home, so
-- a row needs no fourth stage.
abbrev pub swept_row : Row → Row
swept_row r = record r { stage = Gone; home = None }

-- The rows after the site and all its descendants are skipped: gone and without a home. The list has the rows from site k on.
abbrev pub swept : Plan → ℕ → List Row → ℕ → List Row
swept p s [] k = []
swept p s (r ∷ rs) k = (if is_within p s k then swept_row r else r) ∷ swept p s rs (k + 1)

-- The state after an admitted entry. Parts that a case doesn't name are unchanged.
abbrev pub effect_of : Plan → TableState → Entry → TableState
effect_of p t (Register h s) =
    record {
      owners = moved t h s;
      rows = with_row t s record { stage = Live; home = Some h; wishes = 0; asked = 0 };
    }
effect_of p t (Request h s k) =
    record t {
      rows = with_row t s record (row t s) {
        wishes = (row t s).wishes + k;
        asked = (row t s).asked + k;
      };
    }
effect_of p t (Enter h s) =
    record {
      owners = moved t h s;
      rows = with_row t s record (row t s) { wishes = (row t s).wishes - 1 };
    }
effect_of p t (Yield h s) = record t { owners = moved t h (parent p s) }
effect_of p t (Unregister h s) = record {
  owners = moved t h (parent p s);
  rows = with_row t s record (row t s) { stage = Gone };
}
effect_of p t (Skip h s) = record t { rows = swept p s t.rows 1 }

-- The refusal if there is one; else the state.
abbrev pub unless_refused : Option NotAdmitted → TableState → Result TableState NotAdmitted
unless_refused None t = Ok t
unless_refused (Some why) t = Err why

-- The result of the table's step: the first refusal of the entry, or the state after the entry.
abbrev pub admit_of : Plan → TableState → Entry → Result TableState NotAdmitted
admit_of p t e = unless_refused (first_cause (refusals_of p t e)) (effect_of p t e)

-- A plan, and a state of its table.
pub record Position : Type 0 where
  pub plan : Plan
  pub state : TableState

-- The plan is within the limits, and the state has an owner for each hart and a row for each site.
pub record IsPosition (b : Position) : Type 0 where
  pub plan : IsPlan b.plan
  pub owners : length b.state.owners ≡ b.plan.harts
  pub rows : length b.state.rows ≡ site_count b.plan

-- The result of an entry is its effect, or its refusal, which leaves the state unchanged. The plan is unchanged.
pub record IsAnswer (old new : Position) (e : Entry)
    (answer : Result (Unit {0}) NotAdmitted) : Type 0 where
  pub plan : new.plan ≡ old.plan
  pub kept : IsPosition new
  pub ok : IfOk answer (λ _. admit_of old.plan old.state e ≡ Ok new.state)
  pub err : IfErr answer (λ why. admit_of old.plan old.state e ≡ Err why)
  pub unchanged : OnErr answer (new ≡ old)
